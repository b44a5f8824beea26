pub mod Numbers
pub mod Plants
pub mod Tests
pub mod Fine
pub mod Held
pub mod Shares
pub mod Example
