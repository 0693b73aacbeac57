pub mod Widths
pub mod Words
pub mod Parts
pub mod Next
