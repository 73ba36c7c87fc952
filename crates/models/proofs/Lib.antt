pub mod Sounds
pub mod Numbering
pub mod Going
pub mod Fits
pub mod Fitting
pub mod Starting
pub mod Listed
