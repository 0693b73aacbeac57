pub mod KeyCase
pub mod KeyRows
pub mod Parts
pub mod KeyTally
