pub mod Counting
pub mod Keys
