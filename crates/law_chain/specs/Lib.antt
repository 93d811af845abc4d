pub mod OnlyMet
pub mod Column
pub mod Applies
pub mod SoundOver
