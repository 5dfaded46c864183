pub mod Logger
pub mod Calls
