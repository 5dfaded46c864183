pub mod Greedy
pub mod Cutter
pub mod AllFed
