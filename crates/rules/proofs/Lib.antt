pub mod Decoding
pub mod Emitting
