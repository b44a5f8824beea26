pub mod Shows
pub mod Played
