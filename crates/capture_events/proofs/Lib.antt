pub mod Passing
pub mod Changing
pub mod Coming
pub mod Counting
