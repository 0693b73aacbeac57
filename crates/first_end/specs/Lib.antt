pub mod First
pub mod OpenEnds
