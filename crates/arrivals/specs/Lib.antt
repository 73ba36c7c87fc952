pub mod Bytes
pub mod Climbing
pub mod Filling
pub mod Ways
pub mod Laws
