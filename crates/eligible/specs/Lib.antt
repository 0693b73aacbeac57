pub mod KeyColumn
pub mod Ports
