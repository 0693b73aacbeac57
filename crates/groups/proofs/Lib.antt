pub mod Counting
pub mod Within
pub mod BySums
pub mod Weighing
