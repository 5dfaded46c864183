pub mod ThreeBenchProof
