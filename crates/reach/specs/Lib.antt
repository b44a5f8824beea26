pub mod Marking
pub mod Drawn
pub mod Sets
pub mod Drying
