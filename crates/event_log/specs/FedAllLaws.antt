-- A feed of the logger is a turn of `fed_all_by`; and chunks come to an end, for what is left to V's end falls with each sample that is taken.
use Rattle.std.specs.Prelude.{◌≡◌, refl, Bool, true, false, List, [], ◌∷◌, ℕ, ◌+◌, ◌-◌, ◌<◌, length, take, drop, ℤ, if◌then◌else◌}
use Rattle.std.proofs.Common.{sym, ◌∙◌, ap, arith, take_all}
use Rattle.std.proofs.Math.Path.{subst}
use Rattle.numbers.specs.Notation.{◌<ᵇ◌}
use Rattle.reading.specs.Told.{Told}
use Rattle.reading.specs.Feed.{last_value}
use Rattle.rms.specs.declared.Gatherer.{Gatherer}
use Rattle.rms.specs.declared.Part.{Part}
use Rattle.rms.specs.Gather.{part_of, with_half, value_with, value_from}
use Rattle.detection.specs.Detection.{detector_after}
use Rattle.greedy.proofs.CutterLaws.{sample-leaves}
use Rattle.greedy.proofs.AllFedLaws.{Turn, turn, falls as samples-fall, left_to, InHalf, left-part, left-first, left-value}
use Rattle.state.specs.declared.State.{State}
use Rattle.state.specs.Step.{with_values, with_gatherer, passes_end, half_joined, cutter, machine}
use Rattle.state.specs.Calls.{fed_with}
use Rattle.state.proofs.CallsLaws.{fed_with-within}
use Rattle.state.proofs.ValidSettled.{valid-settled}
use Rattle.logger.specs.declared.Logger.{Logger}
use Rattle.logger.specs.Logger.{fed_to}
use Rattle.event_log.specs.FedAll.{FedAll}

-- the samples left to V's end
abbrev pub left : State → ℕ
left st = left_to st.settings.samples st.detector.count st.gatherer

abbrev Inside : State → Type 0
Inside st = InHalf st.settings.samples st.gatherer

left-next : (st : State) (x : ℤ) → Inside st → machine.at_end st x ≡ false → Inside (machine.next st x) × (left (machine.next st x) < left st)
unfolding passes_end half_joined detector_after value_from
left-next st x inside = sample-leaves cutter st x Less (left-part m v g inside x) (half g.whole refl)
  where
    m : ℕ
    m = st.settings.samples

    v : ℕ
    v = st.detector.count

    g : Gatherer
    g = st.gatherer

    p : Part
    p = part_of (x ∷ [])

    Less : State → Type 0
    Less after = Inside after × (left after < left st)

    -- by whether a value comes out
    half : (w : Bool) → g.whole ≡ w → let out = if w then value_with m g p ∷ [] else [] in
        (last_value <ᵇ length out + v) ≡ false → Less (with_values out (with_gatherer st (with_half g p)))
    half true w below = left-value m v g inside p below
    half false w below = left-first m v g inside p w

-- a feed of the logger is a turn
pub fed-turn : (xs : List ℤ) (lent : List ℕ) (st : State) {end : State} {told : Told} {out : List ℕ} → fed_to end told out ≡ fed_with st xs lent
    → Turn machine xs lent st end told
unfolding fed_with
fed-turn xs lent st fed = turn machine xs lent st (fed_with-within st xs lent) fed

-- all samples can be fed
pub part-leaves : (l m : Logger) (xs : List ℤ) (why : ℕ) → FedAll l (take (length xs) xs) m why → FedAll l xs m why
part-leaves l m xs why = subst (λ (ys : List ℤ). FedAll l ys m why) (take_all (length xs) xs (omega arith))

-- samples that are all taken lower what is left
pub falls : (l m : Logger) (xs : List ℤ) → 0 < length xs → FedAll l xs m 0 → left m.state < left l.state
falls l m xs some all =
    let valid = valid-settled l.state l.valid in
    samples-fall machine left Inside left-next xs l.state m.state (valid.settings-valid.samples-valid.1, valid.gatherer-valid.0) some all
