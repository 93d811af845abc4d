pub mod SlotWords
pub mod Waiting
pub mod Benched
