pub mod Request
pub mod Sum
pub mod SoundDrive
