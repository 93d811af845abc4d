pub mod Running
pub mod Stopping
pub mod Turning
pub mod Whole
pub mod Cut
pub mod Threading
