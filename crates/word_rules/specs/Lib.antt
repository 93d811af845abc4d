pub mod Responses
pub mod Rules
pub mod Worked
