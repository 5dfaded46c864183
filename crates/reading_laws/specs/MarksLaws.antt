-- Marks of values by any test: one from a to l is 1 exactly where a value there passes. So 02's sentence: an event is marked exactly when a value from its start to
-- the last one in its first magnitude is clipped.
use Rattle.std.specs.Prelude.{◌≡◌, refl, Bool, true, false, List, [], ◌∷◌, ℕ, zero, suc, ◌+◌, ◌-◌, ◌≤◌, ◌<◌, length, take, drop, ℤ}
use Rattle.std.proofs.Common.{sym, ◌∙◌, ap, arith}
use Rattle.std.proofs.Math.Decide.{dec_le}
use Rattle.settings.specs.declared.Settings.{Settings}
use Rattle.numbers.specs.Notation.{flag}
use Rattle.reading.specs.Values.{since, up_to}
use Rattle.reading.specs.Clipping.{value_clipped, marks, any_marked}
use Rattle.reading_laws.specs.Sentences.{ClippedFrom}

never : {A : Type 0} → false ≡ true → A
never e = let z : ◌≡◌ {A = ℕ} 0 1 = ap flag e in absurd (omega arith)

marked-first : (b : Bool) (ms : List ℕ) → b ≡ true → any_marked (flag b ∷ ms) ≡ true
marked-first true ms e = refl
marked-first false ms e = never e

marked-later : (b : Bool) (ms : List ℕ) → any_marked ms ≡ true → any_marked (flag b ∷ ms) ≡ true
marked-later true ms e = refl
marked-later false ms e = e

-- the marks of values by any test, i back to 1
abbrev pub marks_by : (ℕ → Bool) → ℕ → List ℕ
marks_by test zero = []
marks_by test (suc i) = flag (test (suc i)) ∷ marks_by test i

module _ (test : ℕ → Bool) where
  length-marks_by : (i : ℕ) → length (marks_by test i) ≡ i
  length-marks_by zero = refl
  length-marks_by (suc i) = ap suc (length-marks_by i)

  -- the marks up to an earlier value
  drop-marks : (d i : ℕ) → drop d (marks_by test i) ≡ marks_by test (i - d)
  drop-marks zero i = let e : i ≡ i - 0 = omega arith in ap (marks_by test) e
  drop-marks (suc d) zero = let e : 0 ≡ 0 - suc d = omega arith in ap (marks_by test) e
  drop-marks (suc d) (suc i) = let e : i - d ≡ suc i - suc d = omega arith in drop-marks d i ∙ ap (marks_by test) e

  span-is : (a l i : ℕ) → l ≤ i → since a (up_to l (marks_by test i)) ≡ take (suc l - a) (marks_by test l)
  span-is a l i h =
      let n = length (marks_by test i) in
      let e : i - (n - l) ≡ l = omega (arith, length-marks_by i) in
      ap (since a) (drop-marks (n - l) i ∙ ap (marks_by test) e) ∙ ap (λ (k : ℕ). take (suc k - a) (marks_by test l)) (length-marks_by l)

  -- one of the newest n of l values passes
  abbrev Newest : ℕ → ℕ → Type 0
  Newest n l = (j : ℕ) × (l < j + n) × (j ≤ l) × (test j ≡ true)

  -- it is where one of their marks is 1
  found : (n l : ℕ) → any_marked (take n (marks_by test l)) ≡ true → Newest n l
  found zero l h = never h
  found (suc n) zero h = never h
  found (suc n) (suc l) h = go (test (suc l)) refl (found n l) h
    where
      go : (b : Bool) → test (suc l) ≡ b → (any_marked (take n (marks_by test l)) ≡ true → Newest n l)
          → any_marked (flag b ∷ take n (marks_by test l)) ≡ true → Newest (suc n) (suc l)
      go true e was m = (suc l, omega arith, omega arith, e)
      go false e was m = let older = was m in (older.0, omega (arith, older.1), omega (arith, older.2), older.3)

  -- and one of their marks is 1 where it is
  shown : (n l j : ℕ) → 1 ≤ j → l < j + n → j ≤ l → test j ≡ true → any_marked (take n (marks_by test l)) ≡ true
  shown zero l j some low high c = absurd (omega arith)
  shown (suc n) zero j some low high c = absurd (omega arith)
  shown (suc n) (suc l) j some low high c = go (dec_le j l) (λ h. shown n l j some (omega arith) h c)
    where
      go : Dec (j ≤ l) → (j ≤ l → any_marked (take n (marks_by test l)) ≡ true) → any_marked (take (suc n) (marks_by test (suc l))) ≡ true
      go (yes h) older = marked-later (test (suc l)) (take n (marks_by test l)) (older h)
      go (no f) older =
          let e : suc l ≡ j = omega (arith, f) in
          marked-first (test (suc l)) (take n (marks_by test l)) (ap test e ∙ c)

  -- so of marks that are the test's: one from a to l is 1 exactly where a value there passes
  module _ (ms : ℕ → List ℕ) (by : (i : ℕ) → ms i ≡ marks_by test i) where
    marked-is : (i a l : ℕ) → l ≤ i → any_marked (since a (up_to l (ms i))) ≡ any_marked (take (suc l - a) (marks_by test l))
    marked-is i a l h = ap (λ (z : List ℕ). any_marked (since a (up_to l z))) (by i) ∙ ap any_marked (span-is a l i h)

    pub marked-clipped : (i a l : ℕ) → l ≤ i → any_marked (since a (up_to l (ms i))) ≡ true → ClippedFrom test a l
    marked-clipped i a l h m =
        let there = found (suc l - a) l (sym (marked-is i a l h) ∙ m) in
        record { which = there.0; from = omega (arith, there.1, there.2); to = there.2; told = there.3 }

    pub clipped-marked : (i a l : ℕ) → 1 ≤ a → l ≤ i → ClippedFrom test a l → any_marked (since a (up_to l (ms i))) ≡ true
    clipped-marked i a l some h there =
        marked-is i a l h
        ∙ shown (suc l - a) l there.which (omega (arith, there.from)) (omega (arith, there.from, there.to)) there.to there.told

-- the marks of a recording
pub marks-by : (s : Settings) (rec : List ℤ) (i : ℕ) → marks s rec i ≡ marks_by (value_clipped s rec) i
marks-by s rec zero = refl
marks-by s rec (suc i) = ap (λ (ms : List ℕ). flag (value_clipped s rec (suc i)) ∷ ms) (marks-by s rec i)
