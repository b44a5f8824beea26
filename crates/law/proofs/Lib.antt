pub mod Steps
pub mod Settled
pub mod Kept
pub mod Read
pub mod Promised
