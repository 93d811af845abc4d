pub mod Profile
pub mod General
pub mod Valid
