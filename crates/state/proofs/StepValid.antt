-- What holds of every state: parts keep it, and the state that a recording leaves and the fresh one have it. A part has at most four records due, and passes V's
-- end only where V is there.
use Rattle.std.specs.Prelude.{◌≡◌, Bool, true, false, List, [], ◌∷◌, ℕ, zero, suc, ◌+◌, ◌≤◌, ◌<◌, length, ℤ}
use Rattle.std.proofs.Math.Path.{refl}
use Rattle.std.proofs.Common.{ap, subst, arith, ltb-false, le-ltb}
use Rattle.numbers.specs.Notation.{◌<ᵇ◌, flag}
use Rattle.numbers.specs.NotationLaws.{flag-most, flag-none}
use Rattle.settings.specs.declared.Settings.{Settings}
use Rattle.settings.specs.Settings.{window_length_of, ValidSettings}
use Rattle.settings.specs.SettingsLaws.{window_length_of-some, window_length_of-most}
use Rattle.reading.specs.Values.{Samples, halves, value_count, history, values}
use Rattle.rms.specs.declared.Marked.{Marked}
use Rattle.reading.specs.Clipping.{value_clipped, marks, marks_of}
use Rattle.reading.specs.Restore.{value_most}
use Rattle.reading.specs.Feed.{last_value}
use Rattle.reading_laws.specs.Past.{past}
use Rattle.reading_laws.specs.RecordingsLaws.{length-history, length-marks, value-le}
use Rattle.rms.specs.declared.Part.{Part}
use Rattle.rms.specs.declared.Gatherer.{Gatherer}
use Rattle.rms.specs.Gather.{with_half, ValidGatherer, PartFits}
use Rattle.rms.specs.GatherLaws.{value_none, value-one, value-most, with_part-valid, with_half-valid}
use Rattle.rms.specs.GatherLaws as gatherer
use Rattle.rms.specs.GatherFollows.{gatherer_of-valid}
use Rattle.window.specs.Window.{window_of, Small, ValidWindow}
use Rattle.window.specs.WindowValid.{pushed-valid, window_of-valid}
use Rattle.detection.specs.Detection.{detector_after}
use Rattle.detection.specs.DetectionValid.{detector_after-valid, due-most, detector_of-valid}
use Rattle.greedy.proofs.GreedyFollows.{Recording}
use Rattle.state.specs.declared.State.{State}
use Rattle.state.specs.State.{fresh, state_of, ValidState}
use Rattle.state.specs.Step.{with_value, with_values, due_on, with_gatherer, part_joined, value_out, passes_end, half_due, half_joined}
use Rattle.state.proofs.StepFollows.{halves-none, fresh-is}

-- a value into a state
with_value-valid : (x : Marked) (st : State) → x.value ≤ 524288 → st.gatherer.whole ≡ true → st.detector.count < last_value → ValidState st → ValidState (with_value x st)
unfolding detector_after
with_value-valid x st small whole below ok =
    let s = st.settings in
    let n = window_length_of s in
    let v = st.detector.count in
    record {
      settings-valid = ok.settings-valid;
      gatherer-valid = ok.gatherer-valid;
      detector-valid = detector_after-valid s x st.detector st.window st.marks small ok.window-valid ok.detector-valid;
      window-valid = pushed-valid n v x.value st.window (window_length_of-some s) (window_length_of-most s) small ok.window-valid;
      marks-valid = pushed-valid n v (flag x.clipped) st.marks (window_length_of-some s) (window_length_of-most s) (flag-most x.clipped) ok.marks-valid;
      count-le = below;
      none-whole = λ w. absurd (omega (arith, ap flag whole));
    }

-- a part more, which leaves the half-cycle in progress or ends it
module _ (st : State) (p : Part) (ok : ValidState st) (fits : PartFits st.settings.samples st.gatherer p) where
  abbrev m : ℕ
  m = st.settings.samples

  with_gatherer-valid : (g : Gatherer) → ValidGatherer m g → (flag g.whole ≡ 0 → flag st.gatherer.whole ≡ 0) → ValidState (with_gatherer st g)
  with_gatherer-valid g valid before = record {
    settings-valid = ok.settings-valid;
    gatherer-valid = valid;
    detector-valid = ok.detector-valid;
    window-valid = ok.window-valid;
    marks-valid = ok.marks-valid;
    count-le = ok.count-le;
    none-whole = λ w. ok.none-whole (before w);
  }

  pub part_joined-valid : st.gatherer.count + p.count < m → ValidState (part_joined st p)
  part_joined-valid below = with_gatherer-valid _ (with_part-valid m st.gatherer p ok.gatherer-valid fits below) (λ w. w)

  pub half_joined-valid : passes_end st p ≡ false → ValidState (half_joined st p)
  unfolding passes_end half_joined
  half_joined-valid within = go st.gatherer.whole refl
    where
      half : State
      half = with_gatherer st (with_half st.gatherer p)

      half-valid : ValidState half
      half-valid = with_gatherer-valid _ (with_half-valid m st.gatherer p ok.gatherer-valid fits) (λ w. absurd (omega arith))

      room : length (value_out st p) + st.detector.count ≤ last_value
      room = ltb-false last_value (length (value_out st p) + st.detector.count) within

      go : (b : Bool) → st.gatherer.whole ≡ b → ValidState (with_values (value_out st p) half)
      go false w = rw (value_none m st.gatherer p w) half-valid
      go true w =
          let out = value-one m st.gatherer p w in
          rw out (with_value-valid _ half (gatherer.value-le m st.gatherer p ok.gatherer-valid fits) refl (omega (arith, room, ap length out)) half-valid)

-- the state that a recording leaves; the fresh one
marks-small : (s : Settings) (rec : List ℤ) (i : ℕ) → Small 1 (marks s rec i)
marks-small s rec zero j = omega arith
marks-small s rec (suc i) zero = flag-most (value_clipped s rec (suc i))
marks-small s rec (suc i) (suc j) = marks-small s rec i j

history-small : (s : Settings) (rec : List ℤ) → Samples rec → 0 < s.samples → (i : ℕ) → Small value_most (history s rec i)
history-small s rec are some zero j = omega arith
history-small s rec are some (suc i) zero = value-le s rec are some (suc i)
history-small s rec are some (suc i) (suc j) = history-small s rec are some i j

pub state_of-valid : (s : Settings) (rec : List ℤ) → ValidSettings s → Recording (past s) Samples rec → ValidState (state_of s rec)
state_of-valid s rec valid recorded =
    let some : 0 < s.samples = omega (arith, valid.samples-valid.0) in
    let small = history-small s rec recorded.samples some (value_count s rec) in
    let marked = marks-small s rec (value_count s rec) in
    let l = length-history s rec (value_count s rec) in
    let beside : length (marks_of s rec) ≡ length (values s rec) = omega (arith, l, length-marks s rec (value_count s rec)) in
    let n = window_length_of s in
    record {
      settings-valid = valid;
      gatherer-valid = gatherer_of-valid s some rec recorded.samples;
      detector-valid = detector_of-valid s (values s rec) (marks_of s rec) beside small marked;
      window-valid = window_of-valid n (values s rec) (window_length_of-some s) (window_length_of-most s) small;
      marks-valid =
          subst (λ (v : ℕ). ValidWindow 1 n v (window_of n (marks_of s rec))) beside (window_of-valid n (marks_of s rec) (window_length_of-some s) (window_length_of-most s) marked);
      count-le = omega (arith, l, recorded.within);
      none-whole = λ w. omega (arith, l, ltb-false 0 (halves s rec) (flag-none (0 <ᵇ halves s rec) w));
    }

pub recording-none : (s : Settings) → Recording (past s) Samples []
recording-none s = record { samples = tt; within = omega (arith, halves-none s) }

pub fresh-valid : (s : Settings) → ValidSettings s → ValidState (fresh s)
fresh-valid s valid =
    let some : 0 < s.samples = omega (arith, valid.samples-valid.0) in
    rw (fresh-is s some) (state_of-valid s [] valid (recording-none s))

-- the records due with a part are four at most
pub half_due-most : (st : State) (p : Part) → length (half_due st p) ≤ 4
unfolding half_due
half_due-most st p = go (value_out st p) (value-most st.settings.samples st.gatherer p)
  where
    go : (xs : List Marked) → length xs ≤ 1 → length (due_on xs st) ≤ 4
    go [] one = omega arith
    go (x ∷ []) one = due-most st.settings x st.detector st.window st.marks
    go (x ∷ (y ∷ xs)) one = absurd (omega arith)

pub within_end_lem : (st : State) (p : Part) → st.detector.count < last_value → passes_end st p ≡ false
unfolding passes_end
within_end_lem st p below = le-ltb last_value (length (value_out st p) + st.detector.count) (omega (arith, value-most st.settings.samples st.gatherer p))
