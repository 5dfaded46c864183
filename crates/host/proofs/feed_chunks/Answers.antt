use mathlib.Core.Path.{refl, sym, ◌∙◌}
use Prim.Native.Nat.{◌-◌, ◌*◌}
use native.Mathlib.Omega.{arith}
use lib.ListN.{length, length-take, length-drop}
use lib.Seq.{length-take-le, length_front}
use borrow.Rule.Slice.PartMut.{same_len_mid}
use Rattle.reading.specs.Layout.{record_length}
use Rattle.state.proofs.ValidSettled.{valid-settled}
use Rattle.host.proofs.Chunks.{why-none, why-some, chunks_start, chunks-end, taken-few, written-fit, chunks-turn, chunks-stop}
use Rattle.host.proofs.feed_chunks.Goals as goal

pub loop-at-init : goal.loop-at-init
loop-at-init c =
    let a = c.args in
    (chunks_start a.logger.now.state a.bytes.now a.records.now (valid-settled a.logger.now.state a.logger.now.valid), refl)

pub overflow_mul-behind : goal.overflow_mul-behind
overflow_mul-behind c =
    omega (arith, c.loop-at.invariant.0.fits, c.loop-at.invariant.0.long)

pub decode-requires : goal.decode-requires
decode-requires c =
    let l = c.loop-at in
    simp (length-take, length-drop) (omega (arith, c.min-size.ensures, l.invariant.0.inside, l.invariant.1))

pub slice_bounds-feed_in_place-count : goal.slice_bounds-feed_in_place-count
slice_bounds-feed_in_place-count c =
    omega (arith, c.loop-at.invariant.0.fits, c.loop-at.invariant.0.long)

pub overflow_add-written : goal.overflow_add-written
overflow_add-written c =
    let l = c.loop-at in
    let k = c.min-size in
    let read = c.decode in
    let fits = written-fit l.invariant.0 (omega (arith, k.ensures, l.invariant.0.inside)) l.samples
    (read.auto.places ∙ length-take-le k.result l.samples (omega (arith, k.ensures, l.invariant.1))) read.ensures (c.feed_in_place-told.ensures, valid-settled _ c.feed_in_place-told.new.self.valid) in
    omega (arith, fits)

pub overflow_add-result : goal.overflow_add-result
overflow_add-result c =
    let l = c.loop-at in
    let k = c.min-size in
    let read = c.decode in
    let few = taken-few l.invariant.0 (omega (arith, k.ensures, l.invariant.0.inside)) l.samples
    (read.auto.places ∙ length-take-le k.result l.samples (omega (arith, k.ensures, l.invariant.1))) read.ensures (c.feed_in_place-told.ensures, valid-settled _ c.feed_in_place-told.new.self.valid) in
    omega (arith, few, k.ensures, l.invariant.0.inside)

pub returns-then-is_some : goal.returns-then-is_some
returns-then-is_some c =
    let l = c.loop-at in
    let k = c.min-size in
    let read = c.decode in
    chunks-stop l.invariant.0 (omega (arith, k.ensures, l.invariant.0.inside)) l.samples
    (read.auto.places ∙ length-take-le k.result l.samples (omega (arith, k.ensures, l.invariant.1))) read.ensures (c.feed_in_place-told.ensures, valid-settled _ c.feed_in_place-told.new.self.valid) (why-some _ (sym c.is_some.ensures ∙ c.if-is_some.true))

pub overflow_add-at : goal.overflow_add-at
overflow_add-at c =
    omega (arith, c.min-size.ensures, c.loop-at.invariant.0.inside)

pub loop-at-smaller : goal.loop-at-smaller
loop-at-smaller c =
    omega (arith, c.min-size.ensures, c.loop-at-test.true)

pub loop-at-preserved : goal.loop-at-preserved
loop-at-preserved c =
    let l = c.loop-at in
    let k = c.min-size in
    let read = c.decode in
    let fed = c.feed_in_place-told in
    let behind = record_length * l.written in (
      chunks-turn l.invariant.0 (omega (arith, k.ensures, l.invariant.0.inside)) l.samples
          (read.auto.places ∙ length-take-le k.result l.samples (omega (arith, k.ensures, l.invariant.1))) read.ensures (c.feed_in_place-told.ensures, valid-settled _ c.feed_in_place-told.new.self.valid) (why-none _ (sym c.is_some.ensures ∙ c.if-is_some.false))
          (same_len_mid behind (length l.records - behind) l.records fed.new.records fed.auto.records),
      length_front l.samples read.new.places k.result read.auto.places ∙ l.invariant.1,
    )

pub returns : goal.returns
returns c = chunks-end c.loop-at.invariant.0 (omega (arith, c.loop-at-test.false))
