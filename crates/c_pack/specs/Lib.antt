pub mod Code
pub mod Fit
pub mod FilePacks
