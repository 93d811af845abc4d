pub mod FieldRanges
