pub mod Tested
pub mod Adding
mod Small
