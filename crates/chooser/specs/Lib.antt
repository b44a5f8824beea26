pub mod Sets
pub mod Lists
pub mod Arrivals
pub mod FifoCalls
pub mod HighestCalls
pub mod Flags
