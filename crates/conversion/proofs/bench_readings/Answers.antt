-- The bench readings are computed in `proofs/ConversionBenchProof.antt`.
use Rattle.conversion.proofs.ConversionBenchProof.{bench-holds}
use Rattle.conversion.proofs.bench_readings.Goals as goal

pub returns : goal.returns
returns c = bench-holds
