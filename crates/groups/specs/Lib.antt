pub mod Groups
pub mod Left
