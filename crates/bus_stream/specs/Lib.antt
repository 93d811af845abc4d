pub mod Stream
pub mod EventLines
pub mod LineEvents
pub mod Parts
pub mod Kept
