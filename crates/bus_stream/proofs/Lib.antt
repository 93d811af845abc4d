pub mod Closing
pub mod Running
pub mod Turning
pub mod Cut
pub mod Whole
pub mod Ran
