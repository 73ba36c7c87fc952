pub mod Checked
pub mod Heads
pub mod Exchanges
pub mod Scopes
