pub mod End
pub mod Counted
