pub mod Classes
pub mod Starts
