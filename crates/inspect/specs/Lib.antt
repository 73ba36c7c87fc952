pub mod Offers
pub mod Lines
pub mod Answers
pub mod Words
