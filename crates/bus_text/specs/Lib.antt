pub mod TextBytes
pub mod Whole
pub mod Scan
pub mod TextLines
pub mod AnswerLine
pub mod Stored
