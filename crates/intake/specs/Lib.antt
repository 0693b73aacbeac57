pub mod Gather
pub mod Split
pub mod Enough
