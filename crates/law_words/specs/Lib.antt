pub mod Drive
pub mod Decided
pub mod AtOnce
pub mod Stepped
pub mod Listed
pub mod Rest
