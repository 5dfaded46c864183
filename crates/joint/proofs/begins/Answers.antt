-- Each of the three values is small.
use Rattle.std.proofs.Common.{rules}
use Rattle.three_reading.specs.Three.Channel.{on_a, on_b, on_c}
use Rattle.joint.proofs.begins.Goals as goal

pub map-beyond-requires : goal.map-beyond-requires
map-beyond-requires c =
    search (rules, c.requires on_a, c.requires on_b, c.requires on_c)
