pub mod Decoded
pub mod Four
pub mod Outlines
pub mod Places
pub mod Verdict
