pub mod Turns
pub mod Words
pub mod Choices
pub mod Chosen
