-- Each channel's value that leaves is small.
use Rattle.three_reading.specs.Three.Channel.{on_a, on_b, on_c}
use Rattle.joint.proofs.Joint.go_on.Goals as goal

pub go_on-requires : goal.go_on-requires
go_on-requires c =
    (c.requires.0, c.requires.1 on_a)

pub go_on-requires-2 : goal.go_on-requires-2
go_on-requires-2 c =
    (c.requires.0, c.requires.1 on_b)

pub go_on-requires-3 : goal.go_on-requires-3
go_on-requires-3 c =
    (c.requires.0, c.requires.1 on_c)
