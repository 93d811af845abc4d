pub mod Decision
pub mod Deeds
