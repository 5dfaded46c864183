-- What is ready for all three channels is ready for each (`enter-ready`).
use Rattle.std.specs.Prelude.{refl}
use Rattle.std.proofs.Common.{rules}
use Rattle.three_reading.specs.Three.Channel.{on_a, on_b, on_c}
use Rattle.joint.specs.JointLaws.{enter-ready}
use Rattle.joint.proofs.Joint.enter.Goals as goal

pub enter-requires-asks-enter-requires : goal.enter-requires-asks-enter-requires
enter-requires-asks-enter-requires c κs =
    search (rules, enter-ready c.requires on_a refl refl)

pub enter-requires-2-asks-enter-requires : goal.enter-requires-2-asks-enter-requires
enter-requires-2-asks-enter-requires c κs =
    search (rules, enter-ready c.requires on_b refl refl)

pub enter-requires-3-asks-enter-requires : goal.enter-requires-3-asks-enter-requires
enter-requires-3-asks-enter-requires c κs =
    search (rules, enter-ready c.requires on_c refl refl)
