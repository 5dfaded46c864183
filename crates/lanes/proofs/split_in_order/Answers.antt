-- What a turn lays is the next place of each channel.
use Rattle.std.proofs.Common.{◌≡◌, refl, sym, ◌∙◌, ap, List, [], ℕ, ◌+◌, ◌*◌, ◌/◌, ◌<◌, arith, rules, ℤ, length, get_or, set}
use Rattle.three_reading.specs.Three.{triples_of, Channel, at, channel}
use Rattle.three_reading.specs.Three.Channel.{on_a, on_b, on_c}
use Rattle.lanes.specs.LanesLaws.{triple_at, channel-at, length-channel_of}
use Rattle.lanes.proofs.Laying.{Small, kept, Laid, laid_more, laid-all, triple_in, chunk-at}
use Rattle.lanes.proofs.split_in_order.Goals as goal

module _ (c : Channel) (n i : ℕ) (block : List ℤ) {before now : List ℤ} (l : Laid (channel c (triples_of block)) i before now) (same : length before ≡ n)
    (long : length block ≡ 3 * n) where
  lane-long : length (channel c (triples_of block)) ≡ n
  lane-long = omega (arith, length-channel_of c block)

  -- one triple more, and none left
  more : (triple : List ℤ) → i < n → triple_in triple ≡ triple_at block i → Small (at c (triple_in triple)) → Laid (channel c (triples_of block)) (i + 1) before (set now i (kept (at c (triple_in triple))))
  more triple h is s = laid_more (channel c (triples_of block)) i l (omega (arith, lane-long)) (omega (arith, lane-long)) s (ap (at c) is ∙ sym (channel-at c i block (omega arith)))

  all : i ≡ n → now ≡ channel c (triples_of block)
  all h = laid-all (channel c (triples_of block)) i l (omega (arith, lane-long)) (omega (arith, lane-long))

pub loop-i-preserved : goal.loop-i-preserved
loop-i-preserved c =
    let l = c.loop-i in
    let n = length c.args.a.now in
    let block = c.args.block.now in
    let triple : List ℤ = get_or c.as_chunks.result.0.now l.i [] in
    let inside : l.i < n = omega arith in
    let is : triple_in triple ≡ triple_at block l.i = rw c.as_chunks.ensures.front (chunk-at (length block / 3) l.i block (omega arith) (omega arith)) in (
      more on_a n l.i block l.invariant.0 refl c.requires.0 triple inside is (search rules),
      more on_b n l.i block l.invariant.1 c.requires.1 c.requires.0 triple inside is (search rules),
      more on_c n l.i block l.invariant.2 c.requires.2 c.requires.0 triple inside is (search rules),
    )

pub returns : goal.returns
returns c =
    let l = c.loop-i in
    let n = length c.args.a.now in
    let ended : l.i ≡ n = omega arith in
    let block = c.args.block.now in (
      all on_a n l.i block l.invariant.0 refl c.requires.0 ended,
      all on_b n l.i block l.invariant.1 c.requires.1 c.requires.0 ended,
      all on_c n l.i block l.invariant.2 c.requires.2 c.requires.0 ended,
    )
