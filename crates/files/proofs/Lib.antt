pub mod Expressing
pub mod Behaving
pub mod Valuing
pub mod Receiving
pub mod Stating
pub mod Filing
