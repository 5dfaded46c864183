-- The samples of bytes, fed chunk by chunk: the invariant of `feed_chunks`, over what is fed so far. A chunk that is taken whole is a turn, one that is not ends it,
-- and with no sample left it is done.
use Rattle.std.specs.Prelude.{Option, Some, None, is_some, true, false}
use mathlib.Core.Path.{◌≡◌, refl, sym, ◌∙◌, ap}
use mathlib.Core.List.{List, [], ◌++◌}
use Prim.Native.Nat.{ℕ, ◌+◌, ◌-◌, ◌*◌, ◌/◌, ◌≤◌, ◌<◌}
use native.Mathlib.Omega.{arith}
use lib.ListN.{length, take, drop, length-drop, take-append-drop}
use lib.Seq.{take_at, drop-length}
use lib.IntN.{ℤ}
use borrow.Rule.Slice.PartMut.{put_mid}
use Rattle.reading.specs.declared.Stop.{Stop}
use Rattle.reading.specs.declared.Stop.TheVariants.{Room, End}
use Rattle.reading.specs.Told.{Told, why_number}
use Rattle.reading.specs.Engineer.{room}
use Rattle.reading.specs.Layout.{record_length}
use Rattle.samples.specs.Samples.{samples_of}
use Rattle.samples.specs.SamplesLaws.{length-samples, samples_of-drop, samples_of-take}
use Rattle.greedy.specs.Greedy.{fed_by}
use Rattle.greedy.proofs.ProgressLaws.{Progress, progress-none, progress-last, lent-behind, back-behind, chunk-taken, chunk-fits, chunk-more, chunk-last}
use Rattle.state.specs.declared.State.{State}
use Rattle.state.specs.State.{ValidState}
use Rattle.state.specs.Step.{machine}
use Rattle.state.specs.Calls.{fed_with}
use Rattle.logger.specs.Logger.{fed_to}

-- whether there is a reason, and its number
pub why-none : (why : Option Stop) → is_some why ≡ false → why_number why ≡ 0
why-none None e = refl
why-none (Some stop) e = let z : ◌≡◌ {A = ℕ} 0 1 = cc in absurd (omega arith)

pub why-some : (why : Option Stop) → is_some why ≡ true → 0 < why_number why
why-some None e = let z : ◌≡◌ {A = ℕ} 0 1 = cc in absurd (omega arith)
why-some (Some Room) e = omega arith
why-some (Some End) e = omega arith

module _ (st₀ : State) (b lent : List ℕ) where
  pub record Chunks (out : List ℕ) (st : State) (at written : ℕ) : Type 0 where
    pub so_far : Progress machine ValidState st₀ (samples_of b) lent st at written out
    pub long : length out ≡ length lent
    pub inside : at ≤ length b / 2
    pub fits : record_length * written ≤ length lent

  chunks : (out : List ℕ) (st : State) (at written : ℕ) → Progress machine ValidState st₀ (samples_of b) lent st at written out → length out ≡ length lent → Chunks out st at written
  chunks out st at written so_far long =
      record { so_far = so_far; long = long; inside = omega (arith, so_far.at_in, length-samples b); fits = omega (arith, so_far.fits) }

  pub chunks_start : ValidState st₀ → Chunks lent st₀ 0 0
  chunks_start ok = chunks lent st₀ 0 0 (progress-none machine st₀ (samples_of b) lent ok) refl

module _ {st₀ : State} {b lent out : List ℕ} {st : State} {at written : ℕ} (inv : Chunks st₀ b lent out st at written) where
  -- no sample is left
  pub chunks-end : length b / 2 ≤ at → fed_to st (record { taken = at; written = written; why = 0 }) out ≡ fed_with st₀ (samples_of b) lent
  unfolding fed_by fed_with
  chunks-end all =
      let block : List ℤ = samples_of b in
      let e : at ≡ length block = omega (arith, inv.so_far.at_in, length-samples b) in
      let none : drop at block ≡ [] = ap (λ (n : ℕ). drop n block) e ∙ drop-length block in
      let t : at ≡ at + 0 = omega arith in
      let w : written ≡ written + 0 = omega arith in
      (λ i. fed_to st (record { taken = t i; written = w i; why = 0 }) out)
      ∙ progress-last inv.so_far (record { after = st; taken = 0; records = []; why = 0 }) out
      (ap (λ (xs : List ℤ). fed_by machine st xs (room lent - written)) none) (sym (take-append-drop (record_length * written) out))

  -- a chunk of k samples, decoded into the front of `places` and fed
  module _ {k : ℕ} (in_bytes : at + k ≤ length b / 2) (places : List ℤ) {read : List ℤ} (many : length read ≡ k)
      (read_is : read ≡ samples_of (take (2 * at + 2 * k - 2 * at) (drop (2 * at) b))) {end : State} {told : Told} {part : List ℕ}
      (fed : (fed_to end told part ≡ fed_with st (take k (read ++ drop k places)) (take (length out - record_length * written) (drop (record_length * written) out))) × ValidState end) where
    inside : at + k ≤ length (samples_of b)
    inside = omega (arith, length-samples b)

    chunk-is : take k (read ++ drop k places) ≡ take k (drop at (samples_of b))
    chunk-is =
        let n : 2 * at + 2 * k - 2 * at ≡ 2 * k = omega arith in
        take_at read (drop k places) k many
        ∙ read_is
        ∙ ap (λ (j : ℕ). samples_of (take j (drop (2 * at) b))) n
        ∙ samples_of-take k (drop (2 * at) b) (omega (arith, length-drop (2 * at) b))
        ∙ ap (take k) (samples_of-drop at b (omega arith))

    is : fed_to end told part ≡ fed_with st (take k (drop at (samples_of b))) (drop (record_length * written) out)
    is = fed.0 ∙ (λ i. fed_with st (chunk-is i) (lent-behind (record_length * written) out i))

    pub taken-few : told.taken ≤ k
    unfolding fed_with
    taken-few = chunk-taken inv.so_far k inside inv.long fed.1 is

    pub written-fit : written + told.written ≤ room lent
    unfolding fed_with
    written-fit = chunk-fits inv.so_far k inside inv.long fed.1 is

    abbrev back : List ℕ
    back = put_mid (record_length * written) (length out - record_length * written) out part

    back_is : back ≡ take (record_length * written) out ++ part
    back_is = back-behind (record_length * written) out part (omega (arith, inv.fits, inv.long))

    pub chunks-turn : told.why ≡ 0 → length back ≡ length out → Chunks st₀ b lent back end (at + k) (written + told.written)
    unfolding fed_with
    chunks-turn none same = chunks st₀ b lent back end (at + k) (written + told.written) (chunk-more inv.so_far k inside inv.long fed.1 is none back back_is) (same ∙ inv.long)

    pub chunks-stop : 0 < told.why →
        fed_to end (record { taken = at + told.taken; written = written + told.written; why = told.why }) back ≡ fed_with st₀ (samples_of b) lent
    unfolding fed_with
    chunks-stop some = chunk-last inv.so_far k inside inv.long fed.1 is some back back_is
