pub mod Rows
pub mod Parity
pub mod Lawful
pub mod SeekWord
pub mod SectorWord
