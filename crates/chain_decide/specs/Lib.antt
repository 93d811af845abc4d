pub mod Decide
pub mod Levels
pub mod Shown
