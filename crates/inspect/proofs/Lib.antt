pub mod Offering
pub mod Counting
pub mod Words
