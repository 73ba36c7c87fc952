pub mod Sound
pub mod Admitted
pub mod Gathering
pub mod Storing
pub mod Moved
pub mod Held
pub mod Normal
