pub mod Sound
pub mod Views
pub mod Takes
pub mod Checking
pub mod Making
pub mod Reading
