pub mod Network
pub mod Reading
pub mod Found
pub mod Blocked
