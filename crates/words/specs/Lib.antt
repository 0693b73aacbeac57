pub mod Copy
pub mod Head
pub mod Item
pub mod Origin
pub mod Search
