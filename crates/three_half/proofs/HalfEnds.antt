-- The end of a half-cycle, `complete`: what it hands on, and its ways out. The first half-cycle gives no value; V may be at its end, the records may not fit;
-- else it is taken.
use Rattle.std.proofs.Common.{if◌then◌else◌, ◌≡◌, refl, sym, ◌∙◌, ap, Bool, true, false, List, [], ◌∷◌, ℕ, suc, ◌+◌, ◌≤◌, ◌<◌, arith, length, lt-ltb, le-ltb, Ok, Err}
use Rattle.std.specs.Prelude.{not}
use Rattle.numbers.specs.Notation.{◌<ᵇ◌, flag}
use Rattle.settings.specs.declared.Settings.{Settings}
use Rattle.settings.specs.declared.Scaled.{Scaled}
use Rattle.settings.specs.Settings.{window_length_of}
use Rattle.reading.specs.declared.Record.{Record}
use Rattle.reading.specs.declared.Stop.{Stop}
use Rattle.reading.specs.declared.Stop.TheVariants.{Room, End}
use Rattle.reading.specs.Feed.{last_value}
use Rattle.reading.specs.Records.{record_bytes}
use Rattle.reading.specs.Engineer.{over, room}
use Rattle.rms.specs.declared.Gatherer.{Gatherer}
use Rattle.rms.specs.declared.Part.{Part}
use Rattle.rms.specs.Gather.{with_half}
use Rattle.window.specs.Window.{pushed}
use Rattle.records.specs.Due.{records_of}
use Rattle.three_reading.specs.declared.Three.{Three}
use Rattle.three_reading.specs.Three.{Channel, at}
use Rattle.three_reading.specs.Three.Channel.{on_a, on_b, on_c}
use Rattle.joint.specs.declared.Joint.{Joint}
use Rattle.joint.specs.declared.JointSums.{JointSums}
use Rattle.joint.specs.declared.JointTried.{JointTried}
use Rattle.joint.specs.declared.Values.{Values}
use Rattle.joint.specs.Joint.{Small3, joint_sums_of, joint_tried_by, joint_due_at, pushed_all, JointReady}
use Rattle.three_state.specs.declared.ThreeState.{ThreeState}
use Rattle.three_state.specs.ThreeState.{three_with}
use Rattle.three_state.specs.ThreeStep.{with_joints, due_on_three, with_gatherers, with_halves, values_with, values_out}
use Rattle.three_state.specs.ThreeStep.{three_passes, three_half_due, three_half, three_why_not}
use Rattle.three_half.specs.Halves.{HalfReady, half_by, half_of, half_outcome, ValuesReady, values_by}
use Rattle.three_half.specs.HalvesLaws.{sum-at}

-- a test of what is not so
pub is-false : (b : Bool) → not b ≡ true → b ≡ false
is-false true e = sym e
is-false false e = refl

pub is-true : (b : Bool) → not b ≡ false → b ≡ true
is-true true e = refl
is-true false e = sym e

half_at : (c : Channel) (g : Three Gatherer) (p : Three Part) → at c (with_halves g p) ≡ with_half (at c g) (at c p)
half_at on_a g p = refl
half_at on_b g p = refl
half_at on_c g p = refl

module _ {s : Settings} {t : Scaled} {g : Three Gatherer} {j : Joint} {a : JointSums} {ws : Three (List ℕ)} {ms : List ℕ} {p : Three Part}
    (pre : HalfReady s t g j a ws ms p) where
  abbrev st : ThreeState
  st = three_with s g j ws ms

  -- for the values, and for the step of them
  pub values-ready : (halves : Three Gatherer) → halves ≡ with_halves g p → ValuesReady s g halves
  values-ready halves are = record {
    samples-some = omega (arith, pre.valid.settings-valid.samples-valid.0);
    samples-most = pre.valid.settings-valid.samples-valid.1;
    last-le = λ c. (pre.valid.gatherer-valid c).1.1.0;
    half-le = λ c. omega (arith, sum-at pre c, ap (λ (h : Three Gatherer). (at c h).last) are, ap (λ (h : Gatherer). h.last) (half_at c g p));
  }

  pub ready : (x : Values) → Small3 x.sizes → (j.count ≡ last_value → ⊥) → JointReady s t j ws ms a x
  ready x small more = record {
    settings-valid = pre.valid.settings-valid;
    scaled-is = pre.scaled-is;
    window-valid = pre.valid.window-valid;
    marks-valid = pre.valid.marks-valid;
    joint-valid = pre.valid.joint-valid;
    sums-are = pre.sums-are;
    values-le = small;
    count-lt = omega (arith, more, pre.valid.count-le);
  }

  module _ (lent : List ℕ) where
    -- a half-cycle that is not taken
    abbrev NotTaken : Stop → Type 0
    NotTaken stop = half_of s g j a p (Err stop) ws ms lent ≡ half_outcome st p lent

    refused : (y : ℕ) → three_why_not st p (room lent) ≡ suc y → record { after = st; sums = a; written = 0; why = suc y; bytes = lent } ≡ half_outcome st p lent
    unfolding half_outcome
    refused y why =
        (λ i. record { after = st; sums = pre.sums-are i; written = 0; why = suc y; bytes = lent })
        ∙ sym (ap (λ (k : ℕ). half_by k st p lent) why)

    -- one that is
    abbrev IsTaken : Joint → JointSums → ℕ → Three (List ℕ) → List ℕ → List ℕ → Type 0
    IsTaken j₁ sums written ws₁ ms₁ out =
        half_of s g j a p (Ok (record { joint = j₁; sums = sums; written = written })) ws₁ ms₁ out ≡ half_outcome st p lent

    taken : (j₁ : Joint) (sums : JointSums) (written : ℕ) (ws₁ : Three (List ℕ)) (ms₁ out : List ℕ) → three_why_not st p (room lent) ≡ 0 →
        three_with s (with_halves g p) j₁ ws₁ ms₁ ≡ three_half st p → sums ≡ joint_sums_of ws₁ ms₁ → written ≡ length (three_half_due st p) →
        out ≡ over (record_bytes (three_half_due st p)) lent → IsTaken j₁ sums written ws₁ ms₁ out
    unfolding half_outcome
    taken j₁ sums written ws₁ ms₁ out why after_is sums-are written_is bytes-are =
        let sums-is : sums ≡ joint_sums_of (three_half st p).windows (three_half st p).marks =
        sums-are ∙ ap (λ (z : ThreeState). joint_sums_of z.windows z.marks) after_is in
        (λ i. record { after = after_is i; sums = sums-is i; written = written_is i; why = 0; bytes = bytes-are i })
        ∙ sym (ap (λ (k : ℕ). half_by k st p lent) why)

    -- what V's end and the room tell
    why-is : (past full : Bool) → three_passes st p ≡ past → (room lent <ᵇ length (three_half_due st p)) ≡ full →
        three_why_not st p (room lent) ≡ (if past then 2 else if full then 1 else 0)
    why-is past full e f = λ i. if e i then 2 else if f i then 1 else 0

    out-by : {b : Bool} → g.a.whole ≡ b → values_out st p ≡ (if b then values_with s.samples g p ∷ [] else [])
    out-by e = λ i. if e i then values_with s.samples g p ∷ [] else []

    -- the first half-cycle
    pub first-half : g.a.whole ≡ false → IsTaken j a 0 ws ms lent
    unfolding three_passes three_half_due three_half
    first-half first =
        let none : values_out st p ≡ [] = out-by first in
        let no_end : three_passes st p ≡ false =
        ap (λ (vs : List Values). last_value <ᵇ length vs + j.count) none ∙ le-ltb last_value (0 + j.count) (omega (arith, pre.valid.count-le)) in
        let no-event : three_half_due st p ≡ [] = ap (λ (vs : List Values). due_on_three vs st) none in
        taken j a 0 ws ms lent
        (why-is false false no_end (ap (λ (es : List Record). room lent <ᵇ length es) no-event ∙ le-ltb (room lent) 0 (omega arith)))
        (λ i. with_joints (sym none i) (with_gatherers st (with_halves g p)))
        pre.sums-are (sym (ap length no-event)) (sym (ap (λ (es : List Record). over (record_bytes es) lent) no-event))

    -- another one gives a value of each channel
    module _ (whole : g.a.whole ≡ true) where
      -- V is at its end
      pub end-half : j.count ≡ last_value → NotTaken End
      unfolding three_passes
      end-half c =
          let past : three_passes st p ≡ true =
          ap (λ (vs : List Values). last_value <ᵇ length vs + j.count) (out-by whole) ∙ lt-ltb last_value (1 + j.count) (omega arith) in
          refused 1 (why-is true _ past refl)

      module _ (more : j.count ≡ last_value → ⊥) (halves : Three Gatherer) (are : halves ≡ with_halves g p) (x : Values)
          (x-is : x ≡ values_by s.samples g halves) where
        out-is : x ∷ [] ≡ values_out st p
        out-is = (λ i. x-is i ∷ []) ∙ (λ i. values_by s.samples g (are i) ∷ []) ∙ sym (out-by whole)

        not_end : three_passes st p ≡ false
        unfolding three_passes
        not_end =
            ap (λ (vs : List Values). last_value <ᵇ length vs + j.count) (out-by whole)
            ∙ le-ltb last_value (1 + j.count) (omega (arith, more, pre.valid.count-le))

        module _ (tried : JointTried) (tried-is : tried ≡ joint_tried_by s x j ws ms) (written : ℕ) (count_is : written ≡ length (records_of tried.due)) where
          due-is : records_of tried.due ≡ three_half_due st p
          unfolding three_half_due joint_due_at
          due-is = ap (λ (k : JointTried). records_of k.due) tried-is ∙ ap (λ (vs : List Values). due_on_three vs st) out-is

          written_is : written ≡ length (three_half_due st p)
          written_is = count_is ∙ ap length due-is

          room-test : (full : Bool) → (room lent <ᵇ written) ≡ full → three_why_not st p (room lent) ≡ (if full then 1 else 0)
          room-test full e = why-is false full not_end (ap (λ (k : ℕ). room lent <ᵇ k) (sym written_is) ∙ e)

          -- its records do not fit
          pub full-half : room lent < written → NotTaken Room
          full-half few = refused 0 (room-test true (lt-ltb (room lent) written few))

          -- it is taken
          pub taken-half : written ≤ room lent → (n mark : ℕ) → n ≡ window_length_of s → mark ≡ flag x.clipped → (ws₁ : Three (List ℕ)) (ms₁ out : List ℕ) →
              ws₁ ≡ pushed_all n j.count ws x.sizes → ms₁ ≡ pushed n j.count ms mark → out ≡ over (record_bytes (records_of tried.due)) lent →
              IsTaken tried.after tried.sums written ws₁ ms₁ out
          unfolding three_half
          taken-half fits n mark n-is mark_is ws₁ ms₁ out pushed-all pushed-mark bytes-are =
              let windows-are : ws₁ ≡ pushed_all (window_length_of s) j.count ws x.sizes = pushed-all ∙ (λ i. pushed_all (n-is i) j.count ws x.sizes) in
              let marks_are : ms₁ ≡ pushed (window_length_of s) j.count ms (flag x.clipped) =
              pushed-mark ∙ (λ i. pushed (n-is i) j.count ms (mark_is i)) in
              let after_is : three_with s (with_halves g p) tried.after ws₁ ms₁ ≡ three_half st p =
              (λ i. three_with s (with_halves g p) (tried-is i).after (windows-are i) (marks_are i))
              ∙ ap (λ (vs : List Values). with_joints vs (with_gatherers st (with_halves g p))) out-is in
              taken tried.after tried.sums written ws₁ ms₁ out
              (room-test false (le-ltb (room lent) written fits)) after_is
              (ap (λ (k : JointTried). k.sums) tried-is ∙ sym (λ i. joint_sums_of (windows-are i) (marks_are i))) written_is
              (bytes-are ∙ ap (λ (es : List Record). over (record_bytes es) lent) due-is)
