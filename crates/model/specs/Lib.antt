pub mod Limits
pub mod Refusals
pub mod Sums
pub mod Sets
pub mod Releases
