pub mod Models
pub mod Steps
pub mod Taking
pub mod Kept
pub mod Declaring
pub mod Resting
pub mod Laws
pub mod Samples
