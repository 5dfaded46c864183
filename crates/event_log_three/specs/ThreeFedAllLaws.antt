-- A feed of the logger is a turn of `fed_all_by`, told in samples; and chunks come to an end, for what is left to V's end falls with each triple that is taken.
use Rattle.std.specs.Prelude.{◌≡◌, ◌≢◌, Bool, true, false, List, [], ◌∷◌, ℕ, ◌+◌, ◌-◌, ◌*◌, ◌/◌, ◌≤◌, ◌<◌, length, take, drop, ℤ, Result, Ok, Err, if◌then◌else◌}
use Rattle.std.specs.Result.{result_unwrap_or}
use Rattle.std.proofs.Common.{sym, ◌∙◌, ap, arith, take_all}
use Rattle.std.proofs.Math.Path.{refl}
use Rattle.numbers.specs.Notation.{◌<ᵇ◌}
use Rattle.numbers.specs.Answers.{Answered}
use Rattle.numbers.specs.Answers.Answered.{accepted, refused}
use Rattle.numbers.specs.declared.Refusal.{Refusal}
use Rattle.numbers.specs.Refusals.{answer_with}
use Rattle.reading.specs.declared.Told.{Told as ToldInCode}
use Rattle.reading.specs.Told.{Told, told_in}
use Rattle.reading.specs.Feed.{last_value}
use Rattle.reading.specs.Calls.{Outcome}
use Rattle.reading.specs.Layout.{record_length}
use Rattle.rms.specs.declared.Gatherer.{Gatherer}
use Rattle.rms.specs.declared.Part.{Part}
use Rattle.greedy.proofs.CutterLaws.{sample-leaves}
use Rattle.greedy.specs.AllFed.{fed_all_by}
use Rattle.greedy.proofs.AllFedLaws.{Turn, turn, falls as samples-fall, left_to, InHalf, left-part, left-first, left-value}
use Rattle.three_reading.specs.declared.Three.{Three}
use Rattle.three_reading.specs.Three.{triples_of}
use Rattle.three_reading.specs.Three.Channel.{on_a}
use Rattle.three_reading.specs.ThreeCalls.{ThreeOutcome}
use Rattle.three_laws.specs.TriplesLaws.{length-triples, triples-take, triples-drop}
use Rattle.joint.specs.Joint.{joint_after}
use Rattle.three_state.specs.declared.ThreeState.{ThreeState}
use Rattle.three_state.specs.ThreeStep.{with_joints, with_gatherers, parts_of, with_halves, values_with, three_passes, three_half, three_cutter, three_machine}
use Rattle.three_state.specs.ThreeFed.{three_fed_with}
use Rattle.three_state.proofs.ThreeFedLaws.{three_fed_with-within}
use Rattle.three_logger.specs.declared.ThreeLogger.{ThreeLogger}
use Rattle.three_logger.specs.Logger.{three_fed_to, in_samples, three_fed}
use Rattle.three_logger.proofs.FeedLaws.{feed-fed}
use Rattle.three_logger.proofs.ThreeSettled.{three-settled}
use Rattle.event_log_three.specs.ThreeFedAll.{ThreeFedAll}

-- a turn that is told in samples
pub record SamplesTurn (samples : List ℤ) (lent : List ℕ) (st end : ThreeState) (told : Told) : Type 0 where
  pub fits : record_length * told.written ≤ length lent
  pub inside : told.taken ≤ length samples
  pub whole : 3 * ((length samples - told.taken) / 3) ≡ length samples - told.taken
  pub last : told.why ≢ 1 → record { after = end; why = told.why } ≡ fed_all_by three_machine st (triples_of samples)
  pub rest : told.why ≡ 1 → fed_all_by three_machine st (triples_of samples) ≡ fed_all_by three_machine end (triples_of (drop told.taken samples))
  pub some : told.why ≡ 1 → 4 * record_length ≤ length lent → 0 < told.taken

-- what an answer tells; of a refused feed nothing is taken
abbrev nothing : Told
nothing = record { taken = 0; written = 0; why = 0 }

abbrev told_of : Answered Told → Told
told_of (accepted t) = t
told_of (refused n) = nothing

told_of_lem : (answer : Result ToldInCode Refusal) (d : ToldInCode) → told_in d ≡ nothing → told_in (result_unwrap_or answer d) ≡ told_of (answer_with told_in answer)
told_of_lem (Ok t) d none = refl
told_of_lem (Err r) d none = none

module _ (samples : List ℤ) (lent : List ℕ) (st : ThreeState) (answer : Result ToldInCode Refusal) {end : ThreeState} {out : List ℕ}
    (fed : three_fed_to end (answer_with told_in answer) out ≡ three_fed st samples lent) (whole : 3 * (length samples / 3) ≡ length samples) where
  abbrev xs : List (Three ℤ)
  xs = triples_of samples

  abbrev o : Outcome ThreeState
  o = three_fed_with st xs lent

  -- the answer: it is not refused
  fed-is : three_fed_to end (answer_with told_in answer) out ≡ three_fed_to o.after (accepted (in_samples o.told)) o.bytes
  fed-is = fed ∙ sym (feed-fed st samples lent (omega arith) o refl)

  of-triples : Turn three_machine xs lent st o.after o.told
  unfolding three_fed_with
  of-triples = turn three_machine xs lent st (three_fed_with-within st xs lent) refl

  pub fed-turn : (told d : ToldInCode) → told_in d ≡ nothing → told ≡ result_unwrap_or answer d → SamplesTurn samples lent st end (told_in told)
  fed-turn told d none is =
      let t : told_in told ≡ in_samples o.told = ap told_in is ∙ told_of_lem answer d none ∙ ap (λ (r : ThreeOutcome ThreeState). told_of r.answer) fed-is in
      let taken : told.taken ≡ 3 * o.told.taken = ap (λ (s : Told). s.taken) t in
      let why : (told_in told).why ≡ o.told.why = ap (λ (s : Told). s.why) t in
      let after : o.after ≡ end = sym (ap (λ (r : ThreeOutcome ThreeState). r.after) fed-is) in
      record {
        fits = omega (arith, of-triples.fits, ap (λ (s : Told). s.written) t);
        inside = omega (arith, of-triples.inside, length-triples samples, taken);
        whole = omega (arith, of-triples.inside, length-triples samples, taken);
        last = λ other. (λ i. record { after = sym after i; why = why i }) ∙ of-triples.last (λ e. other (why ∙ e));
        rest = λ stopped.
            of-triples.rest (sym why ∙ stopped)
            ∙ ap (λ (s : ThreeState). fed_all_by three_machine s (drop o.told.taken xs)) after
            ∙ ap (λ (l : List (Three ℤ)). fed_all_by three_machine end l) (sym (triples-drop o.told.taken samples))
            ∙ ap (λ (n : ℕ). fed_all_by three_machine end (triples_of (drop n samples))) (sym taken);
        some = λ stopped four. omega (arith, taken, of-triples.some (sym why ∙ stopped) four);
      }

-- whole triples are all that samples have
pub whole-again : (n : ℕ) → 3 * (3 * (n / 3) / 3) ≡ 3 * (n / 3)
whole-again n = omega arith

pub part-leaves : (l m : ThreeLogger) (xs : List ℤ) (why : ℕ) → ThreeFedAll l (take (3 * (length xs / 3)) xs) m why → ThreeFedAll l xs m why
part-leaves l m xs why leaves =
    leaves
    ∙ ap (λ (ts : List (Three ℤ)). fed_all_by three_machine l.state ts)
    (triples-take (length xs / 3) xs ∙ take_all (length xs / 3) (triples_of xs) (omega (arith, length-triples xs)))

-- the triples left to V's end
abbrev pub left : ThreeState → ℕ
left st = left_to st.settings.samples st.joint.count st.gatherers.a

abbrev Inside : ThreeState → Type 0
Inside st = InHalf st.settings.samples st.gatherers.a

left-next : (st : ThreeState) (x : Three ℤ) → Inside st → three_machine.at_end st x ≡ false → Inside (three_machine.next st x) × (left (three_machine.next st x) < left st)
unfolding three_passes three_half joint_after
left-next st x inside = sample-leaves three_cutter st x Less (left-part m v g inside x.a) (half g.whole refl)
  where
    m : ℕ
    m = st.settings.samples

    v : ℕ
    v = st.joint.count

    g : Gatherer
    g = st.gatherers.a

    p : Three Part
    p = parts_of (x ∷ [])

    Less : ThreeState → Type 0
    Less after = Inside after × (left after < left st)

    -- by whether values come out
    half : (w : Bool) → g.whole ≡ w → let out = if w then values_with m st.gatherers p ∷ [] else [] in
        (last_value <ᵇ length out + v) ≡ false → Less (with_joints out (with_gatherers st (with_halves st.gatherers p)))
    half true w below = left-value m v g inside p.a below
    half false w below = left-first m v g inside p.a w

-- triples that are all taken lower what is left
pub falls : (l m : ThreeLogger) (xs : List ℤ) → 0 < 3 * (length xs / 3) → ThreeFedAll l xs m 0 → left m.state < left l.state
falls l m xs some all =
    let valid = three-settled l.state l.valid in
    samples-fall three_machine left Inside left-next (triples_of xs) l.state m.state (valid.settings-valid.samples-valid.1, (valid.gatherer-valid on_a).0)
    (omega (arith, some, length-triples xs)) all
