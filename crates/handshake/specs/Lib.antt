pub mod Transfer
pub mod Edges
pub mod SoundTransfer
