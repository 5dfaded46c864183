-- The parts that the last triples are go into the gatherers.
use Rattle.std.proofs.Common.{◌∙◌, ap, arith}
use Rattle.rms.specs.Gather.{with_part}
use Rattle.three_reading.specs.declared.Three.{Three}
use Rattle.three_reading.specs.Three.Channel.{on_a, on_b, on_c}
use Rattle.rms.specs.declared.Part.{Part}
use Rattle.three_state.specs.ThreeState.{three_with}
use Rattle.three_feed.proofs.EachPart.{part-joins}
use Rattle.three_feed.proofs.end_walk.Goals as goal

pub parts_of-parts-requires : goal.parts_of-parts-requires
parts_of-parts-requires c = (c.requires.0, omega (arith, c.requires.0, c.requires.1 on_a), c.told-lane_a, c.told-lane_b, c.told-lane_c)

pub with_part-requires : goal.with_part-requires
with_part-requires c =
    part-joins c.args.gatherers c.args.block.now c.parts_of-parts.result c.requires.1 c.parts_of-parts.ensures.0 on_a

pub with_part-requires-2 : goal.with_part-requires-2
with_part-requires-2 c =
    part-joins c.args.gatherers c.args.block.now c.parts_of-parts.result c.requires.1 c.parts_of-parts.ensures.0 on_b

pub with_part-requires-3 : goal.with_part-requires-3
with_part-requires-3 c =
    part-joins c.args.gatherers c.args.block.now c.parts_of-parts.result c.requires.1 c.parts_of-parts.ensures.0 on_c

pub returns : goal.returns
returns c =
    let a = c.args in
    let are = c.parts_of-parts.ensures.0 in
    let p = c.with_part.ensures ∙ ap (λ (k : Three Part). with_part a.gatherers.a k.a) are.0 in
    let q = c.with_part-2.ensures ∙ ap (λ (k : Three Part). with_part a.gatherers.b k.b) are.0 in
    let r = c.with_part-3.ensures ∙ ap (λ (k : Three Part). with_part a.gatherers.c k.c) are.0 in (
      λ i. three_with a.state.now.settings (record { a = p i; b = q i; c = r i }) a.joint a.state.now.windows a.state.now.marks,
      are.1,
    )
