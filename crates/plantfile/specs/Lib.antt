pub mod Format
pub mod Writing
pub mod Round
