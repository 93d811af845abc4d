pub mod Checked
pub mod Back
