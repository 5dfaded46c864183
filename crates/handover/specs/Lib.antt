pub mod Claim
pub mod Demand2
