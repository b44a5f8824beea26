pub mod Small
pub mod Obeyed
pub mod Broken
