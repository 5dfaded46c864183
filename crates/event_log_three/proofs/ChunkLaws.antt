-- A feed of the samples from a place on, told in samples; the whole triples of a chunk; and a chunk's bytes: laws that follow from those of a turn and of triples
-- that are all taken.
use Rattle.std.specs.Prelude.{◌≡◌, Bool, true, ◌&&◌, List, ℕ, ◌+◌, ◌-◌, ◌*◌, ◌/◌, ◌%◌, ◌≤◌, ◌<◌, length, take, drop, ℤ, Result, if◌then◌else◌, false}
use Rattle.std.specs.Result.{result_unwrap_or}
use Rattle.std.proofs.Common.{sym, ◌∙◌, ap, arith, length-drop, length-take-le, take_all, drop-drop, eqb-true}
use Rattle.std.proofs.lemmas.Bool.{eqb-false}
use Rattle.std.proofs.Math.Path.{refl}
use Rattle.numbers.specs.Notation.{◌≡ᵇ◌}
use Rattle.numbers.specs.declared.Refusal.{Refusal}
use Rattle.numbers.specs.Refusals.{answer_with}
use Rattle.reading.specs.declared.Told.{Told as ToldInCode}
use Rattle.reading.specs.Told.{Told, told_in}
use Rattle.reading.specs.Layout.{record_length}
use Rattle.samples.specs.Samples.{samples_of}
use Rattle.samples.specs.SamplesLaws.{length-samples, samples_of-take}
use Rattle.greedy.specs.AllFed.{fed_all_by}
use Rattle.greedy.proofs.ProgressLaws.{lent-behind}
use Rattle.greedy.proofs.AllFedLaws.{rest_by}
use Rattle.greedy.proofs.ChunksLaws.{to_feed, left_while}
use Rattle.three_reading.specs.declared.Three.{Three}
use Rattle.three_reading.specs.Three.{triples_of}
use Rattle.three_laws.specs.TriplesLaws.{length-triples, triples-take, triples-drop}
use Rattle.three_state.specs.declared.ThreeState.{ThreeState}
use Rattle.three_state.specs.ThreeStep.{three_machine}
use Rattle.three_logger.specs.declared.ThreeLogger.{ThreeLogger}
use Rattle.three_logger.specs.Logger.{three_fed_to, three_fed}
use Rattle.event_program.proofs.ChunkLaws.{chunk-falls}
use Rattle.event_log_three.specs.ThreeFedAll.{ThreeFedAll}
use Rattle.event_log_three.specs.ThreeFedAllLaws.{SamplesTurn, fed-turn, left, falls}

-- a turn from a place in the samples on: what it tells, and the place behind it, are in samples
pub record SamplesTurnFrom (samples : List ℤ) (at : ℕ) (lent : List ℕ) (st end : ThreeState) (told : Told) : Type 0 where
  pub fits : record_length * told.written ≤ length lent
  pub inside : at + told.taken ≤ length samples
  pub place : (at + told.taken) % 3 ≡ 0
  pub rest : fed_all_by three_machine st (drop (at / 3) (triples_of samples)) ≡ rest_by three_machine (triples_of samples) end ((at + told.taken) / 3) told.why
  pub less : 4 * record_length ≤ length lent → to_feed (triples_of samples) ((at + told.taken) / 3) told.why < to_feed (triples_of samples) (at / 3) 1

-- behind whole triples
triples-behind : (samples : List ℤ) (n : ℕ) → n % 3 ≡ 0 → triples_of (drop n samples) ≡ drop (n / 3) (triples_of samples)
triples-behind samples n whole =
    let three : n ≡ 3 * (n / 3) = omega arith in ap (λ (k : ℕ). triples_of (drop k samples)) three ∙ triples-drop (n / 3) samples

module _ (samples : List ℤ) (at : ℕ) (lent : List ℕ) (st : ThreeState) (answer : Result ToldInCode Refusal) {end : ThreeState} {out : List ℕ}
    (fed : three_fed_to end (answer_with told_in answer) out ≡ three_fed st (take (length samples - at) (drop at samples)) lent)
    (whole : length samples % 3 ≡ 0) (place : at % 3 ≡ 0) (inside : at ≤ length samples) where
  abbrev xs : List (Three ℤ)
  xs = triples_of samples

  module _ (told d : ToldInCode) (none : told_in d ≡ record { taken = 0; written = 0; why = 0 }) (is : told ≡ result_unwrap_or answer d) where
    of-rest : SamplesTurn (drop at samples) lent st end (told_in told)
    of-rest =
        fed-turn (drop at samples) lent st answer (fed ∙ ap (λ (b : List ℤ). three_fed st b lent) (lent-behind at samples)) (omega (arith, length-drop at samples))
        told d none is

    inside-after : at + told.taken ≤ length samples
    inside-after = omega (arith, of-rest.inside, length-drop at samples)

    place-after : (at + told.taken) % 3 ≡ 0
    place-after = omega (arith, of-rest.inside, of-rest.whole, length-drop at samples)

    rest-after : (b : Bool) → ((told_in told).why ≡ᵇ 1) ≡ b → fed_all_by three_machine st (drop (at / 3) xs)
        ≡ (if b then fed_all_by three_machine end (drop ((at + told.taken) / 3) xs) else record { after = end; why = (told_in told).why })
    rest-after true e =
        ap (λ (ts : List (Three ℤ)). fed_all_by three_machine st ts) (sym (triples-behind samples at place))
        ∙ of-rest.rest (eqb-true (told_in told).why 1 e)
        ∙ ap (λ (b : List ℤ). fed_all_by three_machine end (triples_of b)) (drop-drop told.taken at samples)
        ∙ ap (λ (ts : List (Three ℤ)). fed_all_by three_machine end ts) (triples-behind samples (at + told.taken) place-after)
    rest-after false e =
        ap (λ (ts : List (Three ℤ)). fed_all_by three_machine st ts) (sym (triples-behind samples at place)) ∙ sym (of-rest.last (eqb-false (told_in told).why 1 e))

    less-after : (b : Bool) → ((told_in told).why ≡ᵇ 1) ≡ b → 4 * record_length ≤ length lent
        → length xs - (at + told.taken) / 3 + (if b then 1 else 0) < length xs - at / 3 + 1
    less-after true e four =
        omega (arith, of-rest.some (eqb-true (told_in told).why 1 e) four, place, place-after, inside-after, length-triples samples)
    less-after false e four = omega (arith, place, place-after, inside-after, length-triples samples)

    pub fed-turn-from : SamplesTurnFrom samples at lent st end (told_in told)
    fed-turn-from = record {
      fits = of-rest.fits;
      inside = inside-after;
      place = place-after;
      rest = rest-after ((told_in told).why ≡ᵇ 1) refl;
      less = less-after ((told_in told).why ≡ᵇ 1) refl;
    }

-- the samples of a chunk's whole triples: there is no other triple in it
module _ (bytes : List ℕ) (samples : List ℤ) (are : samples ≡ samples_of (take (2 * (3 * (length bytes / 6))) bytes)) where
  samples-are : samples ≡ take (3 * (length bytes / 6)) (samples_of bytes)
  samples-are = are ∙ samples_of-take (3 * (length bytes / 6)) bytes (omega arith)

  pub chunk_whole : length samples % 3 ≡ 0
  chunk_whole = omega (arith, ap length samples-are, length-take-le (3 * (length bytes / 6)) (samples_of bytes) (omega (arith, length-samples bytes)))

  pub chunk-triples : triples_of samples ≡ triples_of (samples_of bytes)
  chunk-triples =
      ap triples_of samples-are
      ∙ triples-take (length bytes / 6) (samples_of bytes)
      ∙ take_all (length bytes / 6) (triples_of (samples_of bytes)) (omega (arith, length-triples (samples_of bytes), length-samples bytes))

abbrev triples_whole : ℕ → ℕ
triples_whole n = 3 * (n / 3)

abbrev left_of : ThreeLogger → ℕ
left_of l = left l.state

-- a chunk's bytes
pub bytes-fall : (l : ThreeLogger) (bytes : List ℕ) (good : Bool) (got : ℕ) (m : ThreeLogger) (why : ℕ) (more : Bool) → length bytes ≡ got
    → ThreeFedAll l (samples_of bytes) m why → more ≡ (good && got ≡ᵇ 24576 && why ≡ᵇ 0) → left_while left more m.state < left_while left true l.state
bytes-fall l bytes good got m why more long is more-is = go more refl
  where
    go : (b : Bool) → more ≡ b → left_while left b m.state < left_while left true l.state
    go false e = omega arith
    go true e =
        let less : left m.state < left l.state = chunk-falls ThreeFedAll triples_whole left_of falls l m bytes got 24576 12288 why good more long (omega arith) (omega arith) is more-is e in
        omega (arith, less)
