-- The end of a half-cycle, `complete`: its ways out. The first half-cycle gives no value; V may be at its end, the
-- records may not fit; else it is taken.
use Rattle.std.specs.Prelude.{if◌then◌else◌, Ok, Err}
use mathlib.Core.Path.{◌≡◌, refl, sym, ◌∙◌, ap}
use mathlib.Core.Bool.{Bool, true, false, ◌||◌}
use mathlib.Core.List.{List, [], ◌∷◌}
use Prim.Native.Nat.{ℕ, suc, ◌+◌, ◌≤◌, ◌<◌}
use native.Mathlib.Omega.{arith}
use lib.ListN.{length}
use borrow.Author.Tests.{lt-ltb, le-ltb}
use Rattle.numbers.specs.Notation.{◌<ᵇ◌, flag}
use Rattle.settings.specs.declared.Settings.{Settings}
use Rattle.settings.specs.declared.Scaled.{Scaled}
use Rattle.settings.specs.Settings.{window_length_of}
use Rattle.reading.specs.declared.Record.{Record}
use Rattle.rms.specs.declared.Marked.{Marked}
use Rattle.reading.specs.declared.Stop.{Stop}
use Rattle.reading.specs.declared.Stop.TheVariants.{Room, End}
use Rattle.reading.specs.Values.{rms}
use Rattle.reading.specs.Feed.{last_value}
use Rattle.reading.specs.Records.{record_bytes}
use Rattle.reading.specs.Engineer.{over, room}
use Rattle.rms.specs.declared.Part.{Part}
use Rattle.rms.specs.declared.Gatherer.{Gatherer}
use Rattle.rms.specs.Gather.{with_half, value_with, value_from}
use Rattle.window.specs.declared.Sums.{Sums}
use Rattle.window.specs.Window.{pushed}
use Rattle.records.specs.Due.{records_of}
use Rattle.detection.specs.declared.Detector.{Detector}
use Rattle.detection.specs.declared.Tried.{Tried}
use Rattle.detection.specs.Detection.{sums_of, tried_by, due_at}
use Rattle.state.specs.declared.State.{State}
use Rattle.state.specs.State.{state_with}
use Rattle.state.specs.Step.{with_values, due_on, with_gatherer, value_out, passes_end, half_due, half_joined, why_not}
use Rattle.feed.specs.declared.Half.{Half}
use Rattle.feed.specs.Feed.{HalfReady, half_by, half_outcome, half_of}

module _ {s : Settings} {t : Scaled} {g : Gatherer} {d : Detector} {a : Sums} {w ms : List ℕ} {p : Part} (pre : HalfReady s t g d a w ms p) where
  abbrev st : State
  st = state_with s g d w ms

  module _ (lent : List ℕ) where
    -- a half-cycle that is not taken
    abbrev NotTaken : Stop → Type 0
    NotTaken stop = half_of s g d a (Err stop) w ms lent ≡ half_outcome st p lent

    refused : (y : ℕ) → why_not st p (room lent) ≡ suc y → record { after = st; sums = a; written = 0; why = suc y; bytes = lent } ≡ half_outcome st p lent
    unfolding half_outcome
    refused y why =
        (λ i. record { after = st; sums = pre.sums-are i; written = 0; why = suc y; bytes = lent })
        ∙ sym (ap (λ (k : ℕ). half_by k st p lent) why)

    -- one that is
    abbrev IsTaken : Half → List ℕ → List ℕ → List ℕ → Type 0
    IsTaken h w₁ ms₁ out = half_of s g d a (Ok h) w₁ ms₁ out ≡ half_outcome st p lent

    taken : (h : Half) (w₁ ms₁ out : List ℕ) → why_not st p (room lent) ≡ 0 → state_with s h.gatherer h.detector w₁ ms₁ ≡ half_joined st p → h.sums ≡ sums_of w₁ ms₁ →
        h.written ≡ length (half_due st p) → out ≡ over (record_bytes (half_due st p)) lent → IsTaken h w₁ ms₁ out
    unfolding half_outcome
    taken h w₁ ms₁ out why after_is sums-are written_is bytes-are =
        let sums : h.sums ≡ sums_of (half_joined st p).window (half_joined st p).marks = sums-are ∙ ap (λ (z : State). sums_of z.window z.marks) after_is in
        (λ i. record { after = after_is i; sums = sums i; written = written_is i; why = 0; bytes = bytes-are i })
        ∙ sym (ap (λ (k : ℕ). half_by k st p lent) why)

    -- what V's end and the room tell
    why-is : (past full : Bool) → passes_end st p ≡ past → (room lent <ᵇ length (half_due st p)) ≡ full →
        why_not st p (room lent) ≡ (if past then 2 else if full then 1 else 0)
    why-is past full e f = λ i. if e i then 2 else if f i then 1 else 0

    -- the first half-cycle
    pub first-half : g.whole ≡ false → (half : Gatherer) → half ≡ with_half g p →
        IsTaken (record { gatherer = half; detector = d; sums = a; written = 0 }) w ms lent
    unfolding passes_end half_due half_joined value_from
    first-half first half half_is =
        let none : value_out st p ≡ [] = ap (λ (b : Bool). if b then value_with s.samples g p ∷ [] else []) first in
        let no_end : passes_end st p ≡ false =
        ap (λ (vs : List Marked). last_value <ᵇ length vs + d.count) none ∙ le-ltb last_value (0 + d.count) (omega (arith, pre.valid.count-le)) in
        let no-event : half_due st p ≡ [] = ap (λ (vs : List Marked). due_on vs st) none in
        taken (record { gatherer = half; detector = d; sums = a; written = 0 }) w ms lent
        (why-is false false no_end (ap (λ (es : List Record). room lent <ᵇ length es) no-event ∙ le-ltb (room lent) 0 (omega arith)))
        (λ i. with_values (sym none i) (with_gatherer st (half_is i)))
        pre.sums-are (sym (ap length no-event)) (sym (ap (λ (es : List Record). over (record_bytes es) lent) no-event))

    -- another one gives a value
    module _ (whole : g.whole ≡ true) where
      value-is : value_out st p ≡ value_with s.samples g p ∷ []
      unfolding value_from
      value-is = ap (λ (b : Bool). if b then value_with s.samples g p ∷ [] else []) whole

      -- V is at its end
      pub end-half : d.count ≡ last_value → NotTaken End
      unfolding passes_end
      end-half c =
          let past : passes_end st p ≡ true = ap (λ (vs : List Marked). last_value <ᵇ length vs + d.count) value-is ∙ lt-ltb last_value (1 + d.count) (omega arith) in
          refused 1 (why-is true _ past refl)

      module _ (more : d.count ≡ last_value → ⊥) (half : Gatherer) (half_is : half ≡ with_half g p) (r : ℕ) (r-is : r ≡ rms s.samples g.last half.last) where
        abbrev x : Marked
        x = record { value = r; clipped = g.last_clipped || half.last_clipped }

        out-is : x ∷ [] ≡ value_out st p
        out-is =
            (λ i. record { value = r-is i; clipped = g.last_clipped || half.last_clipped } ∷ [])
            ∙ ((λ i. record { value = rms s.samples g.last (half_is i).last; clipped = g.last_clipped || (half_is i).last_clipped } ∷ []) ∙ sym value-is)

        not_end : passes_end st p ≡ false
        unfolding passes_end
        not_end = ap (λ (vs : List Marked). last_value <ᵇ length vs + d.count) value-is ∙ le-ltb last_value (1 + d.count) (omega (arith, more, pre.valid.count-le))

        module _ (tried : Tried) (tried-is : tried ≡ tried_by s x d w ms) (written : ℕ) (count_is : written ≡ length (records_of tried.due)) where
          due-is : records_of tried.due ≡ half_due st p
          unfolding half_due due_at
          due-is = ap (λ (k : Tried). records_of k.due) tried-is ∙ ap (λ (vs : List Marked). due_on vs st) out-is

          written_is : written ≡ length (half_due st p)
          written_is = count_is ∙ ap length due-is

          room-test : (full : Bool) → (room lent <ᵇ written) ≡ full → why_not st p (room lent) ≡ (if full then 1 else 0)
          room-test full e = why-is false full not_end (ap (λ (k : ℕ). room lent <ᵇ k) (sym written_is) ∙ e)

          -- its records do not fit
          pub full-half : room lent < written → NotTaken Room
          full-half few = refused 0 (room-test true (lt-ltb (room lent) written few))

          -- it is taken
          pub taken-half : written ≤ room lent → (w₁ ms₁ out : List ℕ) → w₁ ≡ pushed (window_length_of s) d.count w r →
              ms₁ ≡ pushed (window_length_of s) d.count ms (flag x.clipped) → out ≡ over (record_bytes (records_of tried.due)) lent →
              IsTaken (record { gatherer = half; detector = tried.after; sums = tried.sums; written = written }) w₁ ms₁ out
          unfolding half_joined
          taken-half fits w₁ ms₁ out window-is marks_are bytes-are =
              let after_is : state_with s half tried.after w₁ ms₁ ≡ half_joined st p =
              (λ i. state_with s (half_is i) (tried-is i).after (window-is i) (marks_are i)) ∙ ap (λ (vs : List Marked). with_values vs (with_gatherer st (with_half g p))) out-is in
              taken (record { gatherer = half; detector = tried.after; sums = tried.sums; written = written }) w₁ ms₁ out
              (room-test false (le-ltb (room lent) written fits)) after_is
              (ap (λ (k : Tried). k.sums) tried-is ∙ sym (λ i. sums_of (window-is i) (marks_are i))) written_is
              (bytes-are ∙ ap (λ (es : List Record). over (record_bytes es) lent) due-is)
