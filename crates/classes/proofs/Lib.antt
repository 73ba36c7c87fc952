pub mod Cutting
pub mod Walking
pub mod Heading
pub mod Starting
