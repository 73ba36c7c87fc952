pub mod Alike
pub mod Seen
