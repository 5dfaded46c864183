-- The step follows the history, for every kind: the state read from a history, stepped by a value, is the state read from the longer history, and the
-- record that ends is the one that the reading has due, with its mark. First for any test of beginning and ending, then for that of the settings' levels.
use Rattle.std.specs.Prelude.{◌≡◌, Bool, ◌&&◌, ◌||◌, List, [], ◌∷◌, map, take, drop, if◌then◌else◌, Some, None}
use Rattle.std.proofs.Math.Path.{refl, ap}
use Rattle.std.proofs.Common.{sym, ◌∙◌, arith}
use Rattle.std.proofs.Math.Bool.{true, false, or-false}
use Prim.Native.Nat.{ℕ, zero, suc, ◌-◌, ◌≤◌, ◌<◌}
use Rattle.std.proofs.Math.ListN.{length}
use Rattle.std.proofs.Math.Dec.{eqb-suc-zero}
use Rattle.settings.specs.declared.Settings.{Settings}
use Rattle.numbers.specs.Notation.{◌<ᵇ◌, ◌≡ᵇ◌, flag}
use Rattle.numbers.specs.NotationLaws.{flag-back}
use Rattle.reading.specs.declared.Kind.{Kind}
use Rattle.reading.specs.declared.Kind.TheVariants.{Dip, Swell, Interruption}
use Rattle.reading.specs.declared.Event.{Event}
use Rattle.reading.specs.Values.{since, up_to}
use Rattle.reading.specs.Clipping.{any_marked, clipped_since, last_measured, event_clipped, record_of}
use Rattle.reading.specs.Thresholds.{begins, ends, stands_since, magnitude, kind_number, threshold_due}
use Rattle.threshold.specs.Standing.{worse, worsened, stepped, since_after, ended_at, list_of, magnitude_since, standing_since, standing_of}

-- the first standing value is one of the values
pub since_after-le : (v : ℕ) (begins ends : Bool) (before : ℕ) → before ≤ v → since_after (suc v) begins ends before ≤ suc v
since_after-le v begins ends before h = go begins ends (before ≡ᵇ 0)
  where
    go : (b e z : Bool) → (if b then (if z then suc v else before) else if e then 0 else before) ≤ suc v
    go true e true = omega arith
    go true e false = omega arith
    go false true z = omega arith
    go false false z = omega arith

pub stands_since-le : (s : Settings) (k : Kind) (hist : List ℕ) → stands_since s k hist ≤ length hist
stands_since-le s k [] = omega arith
stands_since-le s k (r ∷ older) = since_after-le (length older) (begins s k r) (ends s k r) (stands_since s k older) (stands_since-le s k older)

-- the magnitude with one value more
magnitude-cons : (k : Kind) (r x : ℕ) (xs : List ℕ) → magnitude k (r ∷ (x ∷ xs)) ≡ worse k r (magnitude k (x ∷ xs))
magnitude-cons Dip r x xs = refl
magnitude-cons Swell r x xs = refl
magnitude-cons Interruption r x xs = refl

magnitude-take : (k : Kind) (r n : ℕ) (xs : List ℕ) → 0 < n → n ≤ length xs → magnitude k (r ∷ take n xs) ≡ worse k r (magnitude k (take n xs))
magnitude-take k r zero xs h g = absurd (omega arith)
magnitude-take k r (suc n) [] h g = absurd (omega arith)
magnitude-take k r (suc n) (x ∷ xs) h g = magnitude-cons k r x (take n xs)

module _ (k : Kind) (r : ℕ) (older : List ℕ) where
  goes_on : (a : ℕ) → 0 < a → a ≤ length older → magnitude_since k a (r ∷ older) ≡ worse k r (magnitude_since k a older)
  goes_on zero h g = absurd (omega arith)
  goes_on (suc a) h g =
      let e : suc (suc (length older)) - suc a ≡ suc (suc (length older) - suc a) = omega arith in
      rw e (magnitude-take k r (suc (length older) - suc a) older (omega arith) (omega arith))

  begins-now : magnitude_since k (suc (length older)) (r ∷ older) ≡ r
  begins-now =
      let e : suc (suc (length older)) - suc (length older) ≡ 1 = omega arith in
      rw e (one k)
    where
      one : (k : Kind) → magnitude k (r ∷ []) ≡ r
      one Dip = refl
      one Swell = omega arith
      one Interruption = refl

-- the mark with one value more
module _ (clipped : Bool) (ms : List ℕ) where
  clipped-on : (a : ℕ) → 0 < a → a ≤ length ms → clipped_since a (flag clipped ∷ ms) ≡ (clipped || clipped_since a ms)
  clipped-on zero h g = absurd (omega arith)
  clipped-on (suc a) h g =
      let e : suc (suc (length ms)) - suc a ≡ suc (suc (length ms) - suc a) = omega arith in
      rw (e, flag-back clipped)

  clipped-now : clipped_since (suc (length ms)) (flag clipped ∷ ms) ≡ clipped
  clipped-now =
      let e : suc (suc (length ms)) - suc (length ms) ≡ 1 = omega arith in
      rw (e, flag-back clipped) (or-false clipped)

-- the event that stood from value a to the newest of the older ones
abbrev pub stood_until : Kind → List ℕ → ℕ → Event
stood_until k older a = record { kind = kind_number k; start = a; duration = suc (length older) - a; first = magnitude k (since a older); second = 0 }

-- a value r, clipped or not, after older ones, each with its mark
module _ (k : Kind) (r : ℕ) (older : List ℕ) (clipped : Bool) (ms : List ℕ) (beside : length ms ≡ length older) where
  abbrev i : ℕ
  i = suc (length older)

  abbrev marked : List ℕ
  marked = flag clipped ∷ ms

  on : (a : ℕ) → suc a ≤ length older → worsened k r clipped (standing_since k (suc a) older ms) ≡ standing_since k (suc a) (r ∷ older) marked
  on a h =
      let m = goes_on k r older (suc a) (omega arith) h in
      let c = clipped-on clipped ms (suc a) (omega arith) (omega arith) in
      λ j. record { start = suc a; magnitude = sym m j; clipped = sym c j }

  begun : record { start = i; magnitude = r; clipped = clipped } ≡ standing_since k i (r ∷ older) marked
  begun =
      let c = ap (λ (n : ℕ). clipped_since (suc n) marked) (sym beside) ∙ clipped-now clipped ms in
      λ j. record { start = i; magnitude = sym (begins-now k r older) j; clipped = sym c j }

  -- whatever begins and ends the event
  pub since-follows : (begins ends : Bool) (before now : ℕ) → before ≤ length older → now ≡ since_after i begins ends before →
      stepped k i r clipped begins ends (standing_since k before older ms) ≡ standing_since k now (r ∷ older) marked
  unfolding stepped
  since-follows begins ends before now h e = go begins ends before h ∙ ap (λ (a : ℕ). standing_since k a (r ∷ older) marked) (sym e)
    where
      go : (b e : Bool) (a : ℕ) → a ≤ length older → stepped k i r clipped b e (standing_since k a older ms) ≡ standing_since k (since_after i b e a) (r ∷ older) marked
      go true e zero h = begun
      go true e (suc a) h = rw eqb-suc-zero (on a h)
      go false true a h = refl
      go false false zero h = refl
      go false false (suc a) h = rw eqb-suc-zero (on a h)

  abbrev stood : ℕ → Event
  stood a = stood_until k older a

  -- its last value is the one before r
  last : (k : Kind) (a x : ℕ) → a ≤ length older
      → last_measured (record { kind = kind_number k; start = a; duration = i - a; first = x; second = 0 }) ≡ length ms
  last Dip a x h = omega arith
  last Swell a x h = omega arith
  last Interruption a x h = omega arith

  its-mark : (a : ℕ) → suc a ≤ length older → clipped_since (suc a) ms ≡ event_clipped marked (stood (suc a))
  its-mark a h =
      let e : suc (length ms) - length ms ≡ 1 = omega arith in
      let l = last k (suc a) (magnitude k (since (suc a) older)) h in
      sym (ap (λ (i : ℕ). any_marked (since (suc a) (up_to i marked))) l ∙ ap (λ (i : ℕ). any_marked (since (suc a) (drop i marked))) e)

  pub since-ended : (before now : ℕ) → before ≤ length older →
      list_of (ended_at (kind_number k) i (standing_since k before older ms) (standing_since k now (r ∷ older) marked))
      ≡ map (record_of marked) (if 0 <ᵇ before && now ≡ᵇ 0 then stood_until k older before ∷ [] else [])
  since-ended zero now h = refl
  since-ended (suc a) now h = listed (0 <ᵇ suc a && now ≡ᵇ 0)
    where
      listed : (b : Bool) →
          list_of (if b then Some (record { event = stood (suc a); clipped = clipped_since (suc a) ms }) else None) ≡ map (record_of marked) (if b then stood (suc a) ∷ [] else [])
      listed true = λ j. record { event = stood (suc a); clipped = its-mark a h j } ∷ []
      listed false = refl

  -- by the settings' levels
  module _ (s : Settings) where
    pub follows : stepped k i r clipped (begins s k r) (ends s k r) (standing_of s k older ms) ≡ standing_of s k (r ∷ older) marked
    follows = since-follows (begins s k r) (ends s k r) (stands_since s k older) (stands_since s k (r ∷ older)) (stands_since-le s k older) refl

    pub ended-follows : list_of (ended_at (kind_number k) i (standing_of s k older ms) (standing_of s k (r ∷ older) marked)) ≡ map (record_of marked) (threshold_due s k (r ∷ older))
    ended-follows = since-ended (stands_since s k older) (stands_since s k (r ∷ older)) (stands_since-le s k older)
