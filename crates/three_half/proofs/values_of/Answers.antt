-- Each channel's value is its own; the mark is by definition that of any.
use Rattle.std.proofs.Common.{ℕ, ◌≤◌}
use Rattle.three_reading.specs.Three.Channel.{on_a, on_b, on_c}
use Rattle.joint.specs.Joint.{three_of, Small3}
use Rattle.three_half.specs.Halves.{values_by}
use Rattle.three_half.proofs.values_of.Goals as goal

small : {x y z : ℕ} → x ≤ 524288 → y ≤ 524288 → z ≤ 524288 → Small3 (three_of x y z)
small p q r on_a = p
small p q r on_b = q
small p q r on_c = r

pub value_of-requires : goal.value_of-requires
value_of-requires c =
    let ready = c.requires in
    (ready.samples-some, ready.samples-most, ready.last-le on_a, ready.half-le on_a)

pub value_of-requires-2 : goal.value_of-requires-2
value_of-requires-2 c =
    let ready = c.requires in
    (ready.samples-some, ready.samples-most, ready.last-le on_b, ready.half-le on_b)

pub value_of-requires-3 : goal.value_of-requires-3
value_of-requires-3 c =
    let ready = c.requires in
    (ready.samples-some, ready.samples-most, ready.last-le on_c, ready.half-le on_c)

pub returns : goal.returns
returns c =
    let a = c.args in
    let x = c.value_of.ensures in
    let y = c.value_of-2.ensures in
    let z = c.value_of-3.ensures in (
      λ i. record { sizes = three_of (x.0 i) (y.0 i) (z.0 i); clipped = (values_by a.settings.samples a.gatherers a.halves).clipped },
      small x.1 y.1 z.1,
    )
