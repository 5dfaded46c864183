pub mod Halves
pub mod HalvesLaws
