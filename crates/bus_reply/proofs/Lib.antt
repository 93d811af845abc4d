pub mod LineLeaves
