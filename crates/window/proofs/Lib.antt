pub mod Shift
pub mod OneMore
