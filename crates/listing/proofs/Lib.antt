pub mod Whole
pub mod Open
pub mod Loaded
