pub mod Choice
pub mod Tests
pub mod Slots
pub mod Bytes
pub mod Ones
pub mod Parts
