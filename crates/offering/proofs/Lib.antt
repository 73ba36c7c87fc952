pub mod Kinding
pub mod Placing
pub mod Walking
