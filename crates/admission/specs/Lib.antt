pub mod Conditions
pub mod Admission
pub mod Samples
pub mod Read
