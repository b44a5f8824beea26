pub mod Listed
pub mod Rings
