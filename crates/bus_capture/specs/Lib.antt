pub mod Answers
pub mod Stream
pub mod Parts
pub mod Turns
pub mod Kept
