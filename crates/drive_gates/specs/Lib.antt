pub mod Gates
pub mod CellPlace
