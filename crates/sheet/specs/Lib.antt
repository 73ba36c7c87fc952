pub mod Words
pub mod Faults
pub mod Checks
pub mod Lines
pub mod Trees
pub mod Sheets
