pub mod Written
pub mod Laying
pub mod Staged
pub mod ReadLaid
pub mod LaidRead
pub mod LaidFiles
pub mod Pulled
