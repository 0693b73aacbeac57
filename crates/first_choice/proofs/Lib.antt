pub mod Picking
pub mod Places
pub mod Buckets
pub mod Fits
