pub mod Empty
pub mod RefusedLeaves
