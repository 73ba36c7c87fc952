pub mod VariableKinds
pub mod Repeating
pub mod KindBytes
pub mod Declaring
