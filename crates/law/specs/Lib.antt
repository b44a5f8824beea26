pub mod Phases
pub mod Refusal
pub mod Law
pub mod Scripts
pub mod Promises
