pub mod Products
pub mod Narrow
pub mod React
