pub mod Steps
pub mod Records
pub mod Lists
pub mod Texts
