pub mod Evaluation
pub mod Places
pub mod Fronts
pub mod Stores
pub mod Waiting
pub mod Classes
pub mod Found
pub mod Laws
