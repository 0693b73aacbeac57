pub mod Pairs
pub mod Picking
pub mod Refusing
pub mod Aborting
