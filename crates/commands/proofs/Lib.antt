pub mod Written
pub mod Shown
pub mod Encoded
pub mod Decoded
pub mod Nodes
pub mod Unique
pub mod Cuts
pub mod Channels
