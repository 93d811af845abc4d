pub mod Passed
pub mod Followed
pub mod Cut
pub mod Sound
