pub mod Loops
pub mod Arrays
