-- Each channel's part joins its gatherer.
use Rattle.three_reading.specs.Three.Channel.{on_a, on_b, on_c}
use Rattle.three_half.proofs.halves_of.Goals as goal

pub with_half-requires : goal.with_half-requires
with_half-requires c = c.requires on_a

pub with_half-requires-2 : goal.with_half-requires-2
with_half-requires-2 c = c.requires on_b

pub with_half-requires-3 : goal.with_half-requires-3
with_half-requires-3 c = c.requires on_c

pub returns : goal.returns
returns c = λ i. record { a = c.with_half.ensures i; b = c.with_half-2.ensures i; c = c.with_half-3.ensures i }
