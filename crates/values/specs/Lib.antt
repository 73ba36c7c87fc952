pub mod Few
pub mod Kinds
pub mod Values
pub mod Ops
pub mod Rows
pub mod Texts
pub mod Laws
