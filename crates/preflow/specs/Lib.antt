pub mod Choosers
pub mod Stages
pub mod Networks
pub mod Running
