pub mod ClaimProof
pub mod Demand2Proof
