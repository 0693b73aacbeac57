pub mod Tally
pub mod Filling
pub mod Keying
