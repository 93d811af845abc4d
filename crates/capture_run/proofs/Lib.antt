pub mod Putting
pub mod Running
