pub mod Following
pub mod Arrays
pub mod Lines
pub mod Names
pub mod Scripts
