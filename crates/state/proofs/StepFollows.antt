-- The state follows the recording: stepped by a sample, the state that a recording leaves is the one that the longer recording leaves, with the records that
-- the reading has due; and its readings are the reading's.
use Rattle.std.specs.Prelude.{◌≡◌, Bool, not, List, [], ◌∷◌, ◌++◌, map, ℕ, zero, suc, ◌+◌, ◌-◌, min, ◌≤◌, ◌<◌, drop, get_or, ℤ, if◌then◌else◌}
use Rattle.std.proofs.Math.Path.{refl, sym}
use Rattle.std.proofs.Common.{◌∙◌, ap, ap₂, arith, add-suc, div-le_self, ltb-false, le-ltb}
use Rattle.std.proofs.Math.Bool.{true, false}
use Rattle.std.proofs.Math.ListN.{length}
use Rattle.numbers.specs.Notation.{◌<ᵇ◌, flag}
use Rattle.numbers.specs.NotationLaws.{past-not}
use Rattle.settings.specs.declared.Settings.{Settings}
use Rattle.settings.specs.Settings.{window_length_of}
use Rattle.settings.specs.SettingsLaws.{window_length_of-some, window_length_of-most}
use Rattle.reading.specs.declared.Kind.TheVariants.{Dip, Swell, Interruption}
use Rattle.reading.specs.declared.Record.{Record}
use Rattle.rms.specs.declared.Marked.{Marked}
use Rattle.reading.specs.Values.{halves, value_count, history, values}
use Rattle.reading.specs.Clipping.{marks, marks_of, record_of}
use Rattle.reading.specs.Thresholds.{stands_since}
use Rattle.reading.specs.Changes.{window_sum, Signal, signal}
use Rattle.reading.specs.Changes.Signal.{filling, unsettled, steady, changing}
use Rattle.reading.specs.Records.{due}
use Rattle.reading.specs.Feed.{last_value, due_after, completed, within_end}
use Rattle.reading.specs.Image.{phase_number}
use Rattle.reading.specs.Engineer.{readings}
use Rattle.reading_laws.specs.RecordingsLaws.{length-history, length-marks, value_count-grow, history-grow, marks-grow}
use Rattle.reading_laws.specs.Past.{past}
use Rattle.rms.specs.declared.Part.{Part}
use Rattle.rms.specs.declared.Gatherer.{Gatherer}
use Rattle.rms.specs.Gather.{part_of, with_part, with_half, value_from, gatherer_of}
use Rattle.rms.specs.GatherFollows.{gatherer-follows, values-follow, marks-follow, no_sample-is}
use Rattle.window.specs.Window.{pushed, window_of}
use Rattle.window.specs.WindowFollows.{window_of-none, window-follows, window_sum-window_of, newest-is}
use Rattle.rvc.specs.Phase.{phase_on}
use Rattle.detection.specs.Detection.{no_value, due_at}
use Rattle.detection.specs.DetectionFollows.{detector-follows, due-follows}
use Rattle.greedy.specs.Cutter.{ends_half}
use Rattle.greedy.proofs.GreedyFollows.{StepsFollow}
use Rattle.state.specs.declared.State.{State}
use Rattle.state.specs.State.{fresh, state_with, state_on, state_of, phase_number_of, readings_of}
use Rattle.state.specs.Step.{with_value, with_values, due_on, with_gatherer, part_joined, passes_end, half_due, half_joined, cutter, machine}

-- new values after a history, newest first, and their marks
abbrev sizes : List Marked → List ℕ → List ℕ
sizes xs hist = map (λ (x : Marked). x.value) xs ++ hist

abbrev flags : List Marked → List ℕ → List ℕ
flags xs ms = map (λ (x : Marked). flag x.clipped) xs ++ ms

length-sizes : (xs : List Marked) (hist : List ℕ) → length (sizes xs hist) ≡ length xs + length hist
length-sizes [] hist = omega arith
length-sizes (x ∷ xs) hist = omega (arith, length-sizes xs hist)

length-flags : (xs : List Marked) (ms : List ℕ) → length (flags xs ms) ≡ length xs + length ms
length-flags [] ms = omega arith
length-flags (x ∷ xs) ms = omega (arith, length-flags xs ms)

-- the records due at them
abbrev due_all : Settings → List Marked → List ℕ → List ℕ → List Record
due_all s [] hist ms = []
due_all s (x ∷ xs) hist ms = due_all s xs hist ms ++ map (record_of (flags (x ∷ xs) ms)) (due s (sizes (x ∷ xs) hist))

module _ (s : Settings) where
  due_all_lem : (rec : List ℤ) (v c : ℕ) (xs : List Marked) → history s rec (v + c) ≡ sizes xs (history s rec v) → marks s rec (v + c) ≡ flags xs (marks s rec v)
      → due_after s rec v c ≡ due_all s xs (history s rec v) (marks s rec v)
  due_all_lem rec v zero [] e f = refl
  due_all_lem rec v zero (x ∷ xs) e f = absurd (omega (arith, ap length e, length-history s rec (v + 0), length-history s rec v, length-sizes xs (history s rec v)))
  due_all_lem rec v (suc c) [] e f = absurd (omega (arith, ap length e, length-history s rec (v + suc c), length-history s rec v))
  due_all_lem rec v (suc c) (x ∷ xs) e f =
      let t : history s rec (v + c) ≡ sizes xs (history s rec v) = ap (drop 1) (ap (history s rec) (sym (add-suc v c)) ∙ e) in
      let u : marks s rec (v + c) ≡ flags xs (marks s rec v) = ap (drop 1) (ap (marks s rec) (sym (add-suc v c)) ∙ f) in
      ap₂ ◌++◌ (due_all_lem rec v c xs t u) (λ i. map (record_of (f i)) (due s (e i)))

  -- the state that a history and its marks leave, whatever the gatherer
  module _ (g : Gatherer) (hist ms : List ℕ) (beside : length ms ≡ length hist) where
    beside-on : (xs : List Marked) → length (flags xs ms) ≡ length (sizes xs hist)
    beside-on xs = omega (arith, length-flags xs ms, length-sizes xs hist)

    with_values-follows : (xs : List Marked) → with_values xs (state_on s g hist ms) ≡ state_on s g (sizes xs hist) (flags xs ms)
    with_values-follows [] = refl
    with_values-follows (x ∷ xs) =
        let n = window_length_of s in
        let some = window_length_of-some s in
        let most = window_length_of-most s in
        let before = sizes xs hist in
        let marked = flags xs ms in
        let window = window-follows n x.value before some most in
        let marks-on : pushed n (length before) (window_of n marked) (flag x.clipped) ≡ window_of n (flag x.clipped ∷ marked) =
        ap (λ (k : ℕ). pushed n k (window_of n marked) (flag x.clipped)) (sym (beside-on xs)) ∙ window-follows n (flag x.clipped) marked some most in
        ap (with_value x) (with_values-follows xs)
        ∙ (λ i. state_with s g (detector-follows s x.value before x.clipped marked (beside-on xs) i) (window i) (marks-on i))

    due_on-follows : (xs : List Marked) → due_on xs (state_on s g hist ms) ≡ due_all s xs hist ms
    due_on-follows [] = refl
    due_on-follows (x ∷ xs) =
        ap₂ ◌++◌ (due_on-follows xs)
        (ap (λ (st : State). due_at s x st.detector st.window st.marks) (with_values-follows xs)
        ∙ due-follows s x.value (sizes xs hist) x.clipped (flags xs ms) (beside-on xs))

-- one sample
module _ (s : Settings) (some : 0 < s.samples) (rec : List ℤ) (x : ℤ) where
  abbrev m : ℕ
  m = s.samples

  abbrev g : Gatherer
  g = gatherer_of s rec

  abbrev p : Part
  p = part_of (x ∷ [])

  abbrev longer : List ℤ
  longer = rec ++ (x ∷ [])

  -- the values that come out with it
  abbrev outs : List Marked
  outs = if ends_half cutter (state_of s rec) x then value_from m g p else []

  beside : length (marks_of s rec) ≡ length (values s rec)
  beside = omega (arith, length-marks s rec (value_count s rec), length-history s rec (value_count s rec))

  count_is : length outs + length (values s rec) ≡ value_count s longer
  count_is = omega (arith, ap length (values-follow s some rec x), length-sizes outs (values s rec), length-history s longer (value_count s longer))

  pub at_end-of : value_count s rec ≤ last_value → machine.at_end (state_of s rec) x ≡ not (within_end s rec (x ∷ []) 1)
  unfolding passes_end
  at_end-of within = go (ends_half cutter (state_of s rec) x) ∙ ((λ i. last_value <ᵇ count_is i) ∙ past-not last_value (value_count s longer))
    where
      go : (b : Bool) → (if b then passes_end (state_of s rec) p else false) ≡ (last_value <ᵇ length (if b then value_from m g p else []) + length (values s rec))
      go true = refl
      go false = sym (le-ltb last_value (0 + length (values s rec)) (omega (arith, length-history s rec (value_count s rec))))

  pub due-of : machine.due_with (state_of s rec) x ≡ completed s rec (x ∷ []) 1
  unfolding half_due
  due-of = go (ends_half cutter (state_of s rec) x) ∙ (due_on-follows s g (values s rec) (marks_of s rec) beside outs ∙ sym completed-is)
    where
      go : (b : Bool) → (if b then half_due (state_of s rec) p else []) ≡ due_on (if b then value_from m g p else []) (state_of s rec)
      go true = refl
      go false = refl

      v : ℕ
      v = value_count s rec

      w : ℕ
      w = value_count s longer

      same : history s longer v ≡ history s rec v
      same = history-grow s rec (x ∷ []) some v (omega arith)

      marked : marks s longer v ≡ marks s rec v
      marked = marks-grow s rec (x ∷ []) some v (omega arith)

      all : v + (w - v) ≡ w
      all = omega (arith, value_count-grow s rec (x ∷ []) some)

      completed-is : completed s rec (x ∷ []) 1 ≡ due_all s outs (values s rec) (marks_of s rec)
      completed-is =
          due_all_lem s longer v (w - v) outs
          (ap (history s longer) all ∙ (values-follow s some rec x ∙ ap (sizes outs) (sym same)))
          (ap (marks s longer) all ∙ (marks-follow s some rec x ∙ ap (flags outs) (sym marked)))
          ∙ (λ i. due_all s outs (same i) (marked i))

  pub next_of : machine.next (state_of s rec) x ≡ state_of s longer
  unfolding half_joined
  next_of =
      go (ends_half cutter (state_of s rec) x)
      ∙ ((λ i. with_values outs (state_on s (gatherer-follows s some rec x i) (values s rec) (marks_of s rec)))
      ∙ (with_values-follows s (gatherer_of s longer) (values s rec) (marks_of s rec) beside outs
      ∙ (λ i. state_on s (gatherer_of s longer) (sym (values-follow s some rec x) i) (sym (marks-follow s some rec x) i))))
    where
      go : (b : Bool) → (if b then half_joined (state_of s rec) p else part_joined (state_of s rec) p)
          ≡ with_values (if b then value_from m g p else []) (with_gatherer (state_of s rec) (if b then with_half g p else with_part g p))
      go true = refl
      go false = refl

pub steps_of : (s : Settings) → 0 < s.samples → StepsFollow (past s) machine (state_of s)
steps_of s some = record { at_end-of = at_end-of s some; due-of = due-of s some; next_of = next_of s some }

-- the fresh logger is the one of the empty recording
pub halves-none : (s : Settings) → halves s [] ≡ 0
halves-none s = omega (arith, div-le_self 0 s.samples)

pub fresh-is : (s : Settings) → 0 < s.samples → fresh s ≡ state_of s []
unfolding fresh
fresh-is s some =
    let v : value_count s [] ≡ 0 = omega (arith, halves-none s) in
    let none = window_of-none (window_length_of s) in
    (λ i. state_with s (no_sample-is s some i) no_value (sym none i) (sym none i)) ∙ (λ i. state_on s (gatherer_of s []) (history s [] (sym v i)) (marks s [] (sym v i)))

-- look
newest : (n : ℕ) (hist : List ℕ) → 0 < n → get_or (window_of n hist) (min (length hist) n - 1) 0 ≡ get_or hist 0 0
newest n [] some = let e : min 0 n - 1 ≡ 0 = omega arith in rw (e, window_of-none n)
newest n (r ∷ older) some = newest-is n r older some

pub readings-of : (s : Settings) (rec : List ℤ) → readings_of (state_of s rec) ≡ readings s (values s rec)
unfolding readings_of
readings-of s rec = λ i. record {
  count = length hist;
  value = newest n hist (window_length_of-some s) i;
  sum = sum_is (length hist <ᵇ n) refl i;
  phase = phase-is (signal s hist) i;
  dip = 0 <ᵇ stands_since s Dip hist;
  swell = 0 <ᵇ stands_since s Swell hist;
  interruption = 0 <ᵇ stands_since s Interruption hist;
}
  where
    hist : List ℕ
    hist = values s rec

    n : ℕ
    n = window_length_of s

    sum_is : (b : Bool) → (length hist <ᵇ n) ≡ b → (if b then 0 else window_sum s (window_of n hist)) ≡ (if b then 0 else window_sum s hist)
    sum_is true e = refl
    sum_is false e = window_sum-window_of s hist (ltb-false (length hist) n e)

    phase-is : (q : Signal) → phase_number_of (phase_on s hist (marks_of s rec) q) ≡ phase_number q
    phase-is filling = refl
    phase-is unsettled = refl
    phase-is steady = refl
    phase-is (changing k) = refl
