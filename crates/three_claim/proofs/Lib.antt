pub mod ThreeClaimProof
