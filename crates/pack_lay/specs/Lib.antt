pub mod Lay
pub mod Order
pub mod LaidFile
