-- The bench readings are computed in `proofs/BenchProof.antt`.
use Rattle.reading.proofs.BenchProof.{bench-holds}
use Rattle.reading.proofs.bench_readings.Goals as goal

pub returns : goal.returns
returns c = bench-holds
