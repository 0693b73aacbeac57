pub mod IdSet
