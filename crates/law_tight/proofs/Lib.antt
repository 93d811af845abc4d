pub mod Coincide
pub mod Refuted
pub mod Unwritten
pub mod Early
