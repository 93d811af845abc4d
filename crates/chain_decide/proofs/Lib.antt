pub mod Walk
pub mod Touching
pub mod Written
