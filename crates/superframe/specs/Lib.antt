pub mod Loads
pub mod Prints
