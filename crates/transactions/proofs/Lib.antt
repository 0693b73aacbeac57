pub mod Collecting
pub mod Gathering
