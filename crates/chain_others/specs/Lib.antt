pub mod Passing
pub mod Cell
pub mod Condition
