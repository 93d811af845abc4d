pub mod Tight
pub mod WrongChains
pub mod Writing
pub mod FirstBit
