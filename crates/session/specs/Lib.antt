pub mod Operands
pub mod Values
pub mod Requests
pub mod Faults
pub mod States
pub mod Answers
pub mod Sessions
