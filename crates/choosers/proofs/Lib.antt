pub mod Fairness
pub mod Firsts
pub mod Rotations
pub mod Seniorities
pub mod Passes
