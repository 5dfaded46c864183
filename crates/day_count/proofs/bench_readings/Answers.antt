-- The bench readings are computed in `specs/DayBenchProof.antt`.
use Rattle.day_count.specs.DayBenchProof.{bench-holds}
use Rattle.day_count.proofs.bench_readings.Goals as goal

pub returns : goal.returns
returns c = bench-holds
