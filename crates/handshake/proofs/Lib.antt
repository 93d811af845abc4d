pub mod Patience
