pub mod Ids
pub mod Sets
pub mod Gathered
