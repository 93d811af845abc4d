pub mod State
pub mod Faults
pub mod Status
pub mod Limits
