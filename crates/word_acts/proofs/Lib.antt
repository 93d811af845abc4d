pub mod Times
pub mod ActLimits
pub mod Keep
pub mod WordLeaves
