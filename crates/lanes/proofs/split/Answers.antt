-- What a turn reads is small, and what it lays is the next place of each lane.
use Rattle.std.proofs.Common.{◌≡◌, refl, sym, ◌∙◌, ap, List, ℕ, ◌+◌, ◌*◌, ◌%◌, ◌<◌, arith, rules, ℤ, length, set}
use Rattle.three_reading.specs.declared.Three.{Three}
use Rattle.three_reading.specs.Three.{each, Channel}
use Rattle.three_reading.specs.Three.Channel.{on_a, on_b, on_c}
use Rattle.lanes.specs.Lanes.{lane_in}
use Rattle.lanes.specs.LanesLaws.{turn_of, column, length-lane_in, lane_in-at}
use Rattle.lanes.proofs.Laying.{Small, kept, kept-is, Laid, laid_more, laid-all}
use Rattle.lanes.proofs.split.Goals as goal

abbrev AllSmall : Three ℤ → Type 0
AllSmall t = Small t.a × Small t.b × Small t.c

kept-all : (t : Three ℤ) → AllSmall t → each kept t ≡ t
kept-all t h = λ j. record { a = kept-is t.a h.0 j; b = kept-is t.b h.1 j; c = kept-is t.c h.2 j }

module _ (c : Channel) (n i : ℕ) (block : List ℤ) {before now : List ℤ} (l : Laid (lane_in c n block) i before now) (same : length before ≡ n)
    (long : length block ≡ 3 * n) where
  -- one column more, and none left
  more : {r : ℤ} → i < n → AllSmall (column n block i) → Small r → r ≡ turn_of c (i % 3) (each kept (column n block i))
      → Laid (lane_in c n block) (i + 1) before (set now i (kept r))
  more {r} h small s e =
      let lane = length-lane_in n block long c in
      let is = e ∙ (ap (turn_of c (i % 3)) (kept-all (column n block i) small) ∙ sym (lane_in-at n block long c i h)) in
      laid_more (lane_in c n block) i l (omega arith) (omega arith) s is

  all : i ≡ n → now ≡ lane_in c n block
  all h =
      let lane = length-lane_in n block long c in
      laid-all (lane_in c n block) i l (omega arith) (omega arith)

pub loop-i-preserved : goal.loop-i-preserved
loop-i-preserved c =
    let l = c.loop-i in
    let p = c.requires in
    let n = length c.args.a.now in
    let inside : l.i < n = omega arith in
    let block = c.args.block.now in
    let small : AllSmall (column n block l.i) = (search rules, search rules, search rules) in
    let first = c.chosen in
    let second = c.chosen-in-loop-i in
    let third = c.chosen-in-loop-i-2 in (
      more on_a n l.i block l.invariant.0 refl p.0 inside small first.type_inv first.ensures,
      more on_b n l.i block l.invariant.1 p.2 p.0 inside small second.type_inv second.ensures,
      more on_c n l.i block l.invariant.2 p.3 p.0 inside small third.type_inv third.ensures,
    )

pub returns : goal.returns
returns c =
    let l = c.loop-i in
    let p = c.requires in
    let n = length c.args.a.now in
    let ended : l.i ≡ n = omega arith in
    let block = c.args.block.now in (
      all on_a n l.i block l.invariant.0 refl p.0 ended,
      all on_b n l.i block l.invariant.1 p.2 p.0 ended,
      all on_c n l.i block l.invariant.2 p.3 p.0 ended,
    )
