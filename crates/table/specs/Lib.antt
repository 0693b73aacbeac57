pub mod Index
pub mod Check
