pub mod Passed
pub mod Cut
