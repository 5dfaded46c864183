-- The bench readings are computed in `proofs/ThreeBenchProof.antt`.
use Rattle.three_reading.proofs.ThreeBenchProof.{bench-holds}
use Rattle.three_reading.proofs.bench_readings.Goals as goal

pub returns : goal.returns
returns c = bench-holds
