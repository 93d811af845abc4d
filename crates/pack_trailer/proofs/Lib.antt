pub mod Fields
pub mod ZeroBytes
pub mod RoundTrip
