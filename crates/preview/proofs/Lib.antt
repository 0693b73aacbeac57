pub mod Deciding
pub mod Counting
