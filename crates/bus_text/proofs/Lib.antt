pub mod Reading
pub mod Stopping
pub mod Digits
pub mod Storing
