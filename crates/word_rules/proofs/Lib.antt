pub mod WordLaws
pub mod WordLimits
pub mod SeekHere
pub mod SectorRoom
pub mod ControlZero
pub mod Worked
