-- The code's step, from its parts: what joins the window is what the phase's step asks for, and the parts together are `tried_by`.
use Rattle.std.specs.Prelude.{◌≡◌, Bool, true, false, List, [], ◌∷◌, ℕ, suc, ◌+◌, ◌-◌, ◌≤◌, ◌<◌, take, drop, get_or, if◌then◌else◌, Option}
use Rattle.std.proofs.Common.{sym, ◌∙◌, arith}
use Rattle.std.proofs.Math.Path.{ap}
use Rattle.numbers.specs.Notation.{◌<ᵇ◌, flag}
use Rattle.settings.specs.declared.Settings.{Settings}
use Rattle.settings.specs.declared.Scaled.{Scaled}
use Rattle.settings.specs.Settings.{window_length_of, scaled_of, ValidSettings}
use Rattle.reading.specs.declared.Kind.TheVariants.{Dip, Swell, Interruption}
use Rattle.rms.specs.declared.Marked.{Marked}
use Rattle.reading.specs.Changes.{sum}
use Rattle.reading.specs.declared.Record.{Record}
use Rattle.threshold.specs.declared.Standing.{Standing}
use Rattle.threshold.specs.Standing.{begins_at, ends_at, stepped, ended_at}
use Rattle.window.specs.declared.Sums.{Sums}
use Rattle.window.specs.Window.{pushed, staying, leaving, ValidWindow}
use Rattle.window.specs.WindowValid.{pushed-valid, sum-le, sum-all, sum-pushed}
use Rattle.rvc.specs.declared.Stands.{Stands}
use Rattle.rvc.specs.declared.Joining.{Joining}
use Rattle.rvc.specs.declared.Moved.{Moved}
use Rattle.rvc.specs.declared.Phase.{Phase}
use Rattle.rvc.specs.declared.Signal.{Signal}
use Rattle.rvc.specs.Signal.{steady_by, steady_after, ValidSignal, TestReady}
use Rattle.rvc.specs.SignalLaws.{test-ready, steady-is}
use Rattle.rvc.specs.Phase.{joining_of, moved_on, moved_after, Joins, ValidPhase}
use Rattle.rvc.specs.PhaseLaws.{joins, moved-is}
use Rattle.detection.specs.declared.Detector.{Detector}
use Rattle.detection.specs.declared.Joined.{Joined}
use Rattle.detection.specs.declared.Tried.{Tried}
use Rattle.detection.specs.Detection.{step_of, stands_at, detector_after, due_by, joined_of, tried_by, WindowReady, TryReady}

-- the value that leaves is one of the window's
leaving-sum : (n v : ℕ) (w : List ℕ) → leaving n v w ≤ sum w
leaving-sum n v w = go (v <ᵇ n) w
  where
    go : (b : Bool) (w : List ℕ) → (if b then 0 else get_or w 0 0) ≤ sum w
    go true w = omega arith
    go false [] = omega arith
    go false (x ∷ w) = omega arith

-- one of a window's two rows, of values or of marks: its sum a, the number x that leaves it and the number r that comes
module _ {most n a x : ℕ} (v r : ℕ) (w : List ℕ) (valid : ValidWindow most n v w) (some : 0 < n) (fits : n ≤ 120) (sum_is_lem : a ≡ sum w) (x-is : x ≡ leaving n v w) where
  pub row-leaves : x ≤ a
  row-leaves = omega (arith, leaving-sum n v w)

  pub row-goes-on : a - x + r ≡ sum (pushed n v w r)
  row-goes-on = omega (arith, row-leaves, sum-pushed n v r w some fits valid)

-- one window of n, which the value y joins after v others
module _ {n v : ℕ} {w ms : List ℕ} {a : Sums} {y : Marked} (some : 0 < n) (most : n ≤ 120) (ready : WindowReady n v w ms a y) where
  values_are : a.values ≡ sum w
  values_are = ap (λ (k : Sums). k.values) ready.sums-are

  marks_are : a.marks ≡ sum ms
  marks_are = ap (λ (k : Sums). k.marks) ready.sums-are

  pub sum-most : a.values ≤ 62914560
  sum-most = omega (arith, values_are, sum-le n v w most ready.window-valid, sum-all n v w ready.window-valid)

  pub marks-most : a.marks ≤ 120
  marks-most = omega (arith, marks_are, sum-le n v ms most ready.marks-valid, sum-all n v ms ready.marks-valid)

  pub leaving-within : {x : ℕ} → x ≡ leaving n v w → x ≤ a.values
  leaving-within x-is = row-leaves v 0 w ready.window-valid some most values_are x-is

  pub mark-within : {m : ℕ} → m ≡ leaving n v ms → m ≤ a.marks
  mark-within m-is = row-leaves v 0 ms ready.marks-valid some most marks_are m-is

  pub joined_is : (stands : Stands) {x m i f : ℕ} → x ≡ leaving n v w → m ≡ leaving n v ms → i ≡ suc v → f ≡ flag y.clipped →
      ◌≡◌ {A = Joined} (record {
        joining = record { number = i; value = y.value; leaving = x; mark = m; before = a.values; after = a.values - x + y.value; stands = stands };
        sums = record { values = a.values - x + y.value; marks = a.marks - m + f };
      }) (joined_of n v w ms y stands)
  joined_is stands {x} {m} x-is m-is i-is flag_is =
      let r = y.value in
      let valid = pushed-valid n v r w some most ready.value-le ready.window-valid in
      let before : a.values ≡ sum (take n w) = values_are ∙ sym (sum-all n v w ready.window-valid) in
      let sum_is_lem = row-goes-on v r w ready.window-valid some most values_are x-is in
      let after : a.values - x + r ≡ sum (take n (pushed n v w r)) = sum_is_lem ∙ sym (sum-all n (suc v) (pushed n v w r) valid) in
      let marked = ap (λ (k : ℕ). a.marks - m + k) flag_is ∙ row-goes-on v (flag y.clipped) ms ready.marks-valid some most marks_are m-is in
      λ j. record {
        joining = record { number = i-is j; value = r; leaving = x-is j; mark = m-is j; before = before j; after = after j; stands = stands };
        sums = record { values = sum_is_lem j; marks = marked j };
      }

-- the values that stay in a window of n, as they are lent
pub part-is : (first n v : ℕ) (w : List ℕ) → first ≡ (if v <ᵇ n then 0 else 1) → take (first + (n - 1) - first) (drop first w) ≡ staying n v w
part-is first n v w e = let m : first + (n - 1) - first ≡ n - 1 = omega arith in rw (m, e)

-- one channel, whose window a value joins as j: a signal's test there, and a phase under any truth and under its own signal
module _ {s : Settings} {t : Scaled} {v : ℕ} {w ms : List ℕ} {a : Sums} {y : Marked} (settings-valid : ValidSettings s) (scaled-is : t ≡ scaled_of s)
    (ready : WindowReady (window_length_of s) v w ms a y) {stands : Stands} {n : ℕ} (n-is : n ≡ window_length_of s) {j : Joining} (j-is : j ≡ joining_of n v w ms y.value stands) where
  joining-is : j ≡ joining_of (window_length_of s) v w ms y.value stands
  joining-is = j-is ∙ ap (λ (k : ℕ). joining_of k v w ms y.value stands) n-is

  pub test-ready-at : (p : Signal) → TestReady t n j.after p
  test-ready-at p = rw (scaled-is, n-is, joining-is) (test-ready s v w y.value ready.window-valid p settings-valid ready.value-le)

  pub steady-at : (p : Signal) → ValidSignal (window_length_of s) v p → steady_by t n (staying n v w) j.number j.value j.after p ≡ steady_after s v w y.value p
  steady-at p valid =
      (λ k. steady_by (scaled-is k) (n-is k) (staying (n-is k) v w) (joining-is k).number (joining-is k).value (joining-is k).after p)
      ∙ steady-is s v w y.value ready.window-valid p valid

  pub joins-ready : (p : Phase) → Joins t n j p
  joins-ready p = rw (scaled-is, n-is, joining-is) (joins s v w ms y.value stands ready.window-valid p settings-valid ready.value-le)

  pub moved_on_lem : (p : Phase) → ValidPhase (window_length_of s) v p → moved_on t n (staying n v w) j p ≡ moved_after s v w ms y.value stands p
  moved_on_lem p valid =
      (λ k. moved_on (scaled-is k) (n-is k) (staying (n-is k) v w) (joining-is k) p) ∙ moved-is s v w ms y.value stands ready.window-valid p valid

-- the whole step, from its parts
module _ {s : Settings} {t : Scaled} {d : Detector} {w ms : List ℕ} {a : Sums} {y : Marked} (ready : TryReady s t d w ms a y) {n : ℕ} (n-is : n ≡ window_length_of s) where
  pub window-ready-at : WindowReady n d.count w ms a y
  window-ready-at = rw n-is ready.window-ready

  pub phase-joins : {stands : Stands} {joined : Joined} → joined ≡ joined_of n d.count w ms y stands → Joins t n joined.joining d.phase
  phase-joins e = joins-ready ready.settings-valid ready.scaled-is ready.window-ready n-is (ap (λ (k : Joined). k.joining) e) d.phase

  pub tried-is : {i : ℕ} {stands : Stands} {dip swell interruption : Standing} {joined : Joined} {moved : Moved} {e₁ e₂ e₃ : Option Record} →
      i ≡ suc d.count →
      dip ≡ stepped Dip i y.value y.clipped (begins_at Dip t.dip y.value) (ends_at Dip t.dip y.value) d.dip →
      swell ≡ stepped Swell i y.value y.clipped (begins_at Swell t.swell y.value) (ends_at Swell t.swell y.value) d.swell →
      interruption
      ≡ stepped Interruption i y.value y.clipped (begins_at Interruption t.interruption y.value) (ends_at Interruption t.interruption y.value) d.interruption →
      stands ≡ stands_at i d.dip d.swell dip swell →
      joined ≡ joined_of n d.count w ms y stands →
      moved ≡ moved_on t n (staying n d.count w) joined.joining d.phase →
      e₁ ≡ ended_at 1 i d.dip dip → e₂ ≡ ended_at 2 i d.swell swell → e₃ ≡ ended_at 3 i d.interruption interruption →
      ◌≡◌ {A = Tried} (record {
        after = record { count = i; dip = dip; swell = swell; interruption = interruption; phase = moved.phase };
        due = record { dip = e₁; swell = e₂; interruption = e₃; change = moved.ended };
        sums = joined.sums;
      }) (tried_by s y d w ms)
  unfolding detector_after due_by
  tried-is {stands = stands} {joined = joined} i-is dip-is swell-is interruption-is stands-is joined_is moved-is ended₁ ended₂ ended₃ =
      let v = d.count in
      let r = y.value in
      let c = y.clipped in
      let p = ready.scaled-is in
      let D : _ ≡ step_of s Dip (suc v) y d.dip = dip-is ∙ (λ j. stepped Dip (i-is j) r c (begins_at Dip (p j).dip r) (ends_at Dip (p j).dip r) d.dip) in
      let W : _ ≡ step_of s Swell (suc v) y d.swell = swell-is ∙ (λ j. stepped Swell (i-is j) r c (begins_at Swell (p j).swell r) (ends_at Swell (p j).swell r) d.swell) in
      let I : _ ≡ step_of s Interruption (suc v) y d.interruption =
      interruption-is ∙ (λ j. stepped Interruption (i-is j) r c (begins_at Interruption (p j).interruption r) (ends_at Interruption (p j).interruption r) d.interruption) in
      let M =
      moved-is
      ∙ (moved_on_lem ready.settings-valid p ready.window-ready n-is (ap (λ (k : Joined). k.joining) joined_is) d.phase ready.detector-valid.phase-valid
      ∙ (λ j. moved_after s v w ms r ((stands-is ∙ (λ k. stands_at (i-is k) d.dip d.swell (D k) (W k))) j) d.phase)) in
      let S : joined.sums ≡ (joined_of (window_length_of s) v w ms y stands).sums = ap (λ (k : Joined). k.sums) joined_is ∙ (λ j. (joined_of (n-is j) v w ms y stands).sums) in
      let E₁ = ended₁ ∙ (λ j. ended_at 1 (i-is j) d.dip (D j)) in
      let E₂ = ended₂ ∙ (λ j. ended_at 2 (i-is j) d.swell (W j)) in
      let E₃ = ended₃ ∙ (λ j. ended_at 3 (i-is j) d.interruption (I j)) in
      λ j. record {
        after = record { count = i-is j; dip = D j; swell = W j; interruption = I j; phase = (M j).phase };
        due = record { dip = E₁ j; swell = E₂ j; interruption = E₃ j; change = (M j).ended };
        sums = S j;
      }
