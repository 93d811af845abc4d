pub mod Time
pub mod DriveLeft
pub mod Heads
