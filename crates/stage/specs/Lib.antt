pub mod Model
pub mod States
pub mod Sets
pub mod Runs
pub mod Laws
pub mod First
