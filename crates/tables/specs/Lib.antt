pub mod Rows
pub mod Views
pub mod Offered
pub mod Moving
pub mod Exchanging
