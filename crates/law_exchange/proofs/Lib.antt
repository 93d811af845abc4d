pub mod UnitLaws
pub mod Steps
pub mod Waiting
pub mod Sent
pub mod Fetched
pub mod Exchange
pub mod Like
pub mod Bits
