pub mod Lanes
pub mod LanesLaws
