pub mod Session
