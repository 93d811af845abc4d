pub mod MayReadOrWrite
