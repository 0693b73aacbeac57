pub mod Freeing
pub mod Surveying
