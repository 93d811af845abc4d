pub mod Numbers
pub mod Operands
pub mod Decode
pub mod Answer
