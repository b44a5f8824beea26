mod Restored
mod Marked
mod Numbered
mod Answering
pub mod Cuts
pub mod Steps
pub mod Questions
pub mod Moves
pub mod Runs
pub mod Laws
pub mod Shown
pub mod Seen
pub mod Tried
pub mod Trying
