pub mod Host
pub mod Waits
pub mod Unit
pub mod UnitAtOnce
