pub mod Told
pub mod Done
pub mod Steps
pub mod Grows
