pub mod Parts
pub mod Working
pub mod Arrays
pub mod Compact
pub mod Lent
pub mod Owners
