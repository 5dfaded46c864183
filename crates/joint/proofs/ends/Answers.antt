-- Each of the three values is small.
use Rattle.std.proofs.Common.{rules}
use Rattle.three_reading.specs.Three.Channel.{on_a, on_b, on_c}
use Rattle.joint.proofs.ends.Goals as goal

pub map-back-requires : goal.map-back-requires
map-back-requires c =
    search (rules, c.requires on_a, c.requires on_b, c.requires on_c)
