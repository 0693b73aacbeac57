pub mod Following
pub mod Making
