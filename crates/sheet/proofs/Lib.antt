pub mod Steps
pub mod Nodes
pub mod Accepts
