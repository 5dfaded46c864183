-- The samples that can be fed, of those that the bytes are.
use Rattle.std.proofs.Common.{◌/◌, ◌≡◌, ℕ, length, take, ap, ◌∙◌, sym, arith, length-take-le}
use Rattle.std.proofs.Math.Path.{subst}
use Rattle.std.specs.Prelude.{List, ℤ}
use Rattle.reading.specs.Told.{why_number}
use Rattle.samples.specs.Samples.{samples_of}
use Rattle.samples.specs.SamplesLaws.{length-samples, samples_of-take}
use Rattle.event_program.proofs.feed_chunk.Goals as goal

pub feed_all-requires : goal.feed_all-requires
feed_all-requires g c =
    let whole_of = g.L.EventLogger.whole_of in
    let bytes = c.args.bytes.now in
    let count = c.whole-count.result in
    let long : length c.decode.new.places ≡ count = ap length (c.decode.ensures ∙ samples_of-take count bytes (omega arith))
    ∙ length-take-le count (samples_of bytes) (omega (arith, length-samples bytes, c.whole-count.ensures.bound)) in
    ap whole_of (long ∙ c.whole-count.ensures.value) ∙ g.met.L.EventLogger.whole_again (length bytes / 2) ∙ sym (long ∙ c.whole-count.ensures.value)

pub returns : goal.returns
returns g c =
    let whole_of = g.L.EventLogger.whole_of in
    let bytes = c.args.bytes.now in
    let count = c.whole-count.result in
    let n : count ≡ whole_of (length (samples_of bytes)) = c.whole-count.ensures.value ∙ ap whole_of (sym (length-samples bytes)) in
    let are = c.decode.ensures ∙ samples_of-take count bytes (omega arith) ∙ ap (λ (k : ℕ). take k (samples_of bytes)) n in
    g.met.L.EventLogger.part_leaves _ _ (samples_of bytes) _
    (subst (λ (xs : List ℤ). g.L.EventLogger.Leaves c.args.logger xs c.feed_all.result.logger (why_number c.feed_all.result.why)) are c.feed_all.ensures)
