pub mod Plants
pub mod Obeying
pub mod Breaking
