pub mod BenchProof
