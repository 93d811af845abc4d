pub mod Refusal
pub mod Packs
pub mod Read
pub mod File
