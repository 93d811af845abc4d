pub mod Events
pub mod Coming
pub mod Count
