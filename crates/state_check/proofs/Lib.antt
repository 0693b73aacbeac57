pub mod ByKind
pub mod Marks
