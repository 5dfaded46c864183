-- The laws of recordings: what a longer recording leaves as it was, when a value is new, how great a value is, and the sentence of 01 that it meets.
use Rattle.std.specs.Prelude.{◌≡◌, refl, Bool, ◌||◌, List, [], ◌∷◌, ◌++◌, map, ℕ, zero, suc, ◌+◌, ◌-◌, ◌*◌, ◌/◌, ◌%◌, ◌^◌, ◌≤◌, ◌<◌, length, take, drop, ℤ, pos, negsuc, nat_abs}
use Rattle.std.proofs.Common.{sym, ◌∙◌, ap, ap₂, arith, mul-le-mul, add-mul, le-div_iff_mul-le, div-lt_iff_lt-mul, length-append, length-take, length-drop}
use Rattle.std.proofs.Math.Bool.{or_assoc}
use Rattle.std.proofs.lemmas.List.{take-append-le, drop-append-le}
use Rattle.settings.specs.declared.Settings.{Settings}
use Rattle.numbers.specs.Notation.{flag}
use Rattle.reading.specs.Values.{Sample, Samples, square, squares, half, energy, rms, value, halves, value_count, history}
use Rattle.reading.specs.Clipping.{clipped, any_clipped, value_clipped, marks, record_of}
use Rattle.reading.specs.Records.{due, records_at}
use Rattle.reading_laws.specs.Sentences.{Greatest}
use Rattle.reading_laws.specs.RootLaws.{root_is, root-most, root-le}
use Rattle.reading_laws.specs.DivisionLaws.{div_same, div-next, div-grow}

-- samples
pub samples-append : (xs ys : List ℤ) → Samples xs → Samples ys → Samples (xs ++ ys)
samples-append [] ys p q = q
samples-append (x ∷ xs) ys p q = (p.0, samples-append xs ys p.1 q)

pub samples-take : (n : ℕ) (xs : List ℤ) → Samples xs → Samples (take n xs)
samples-take zero xs p = tt
samples-take (suc n) [] p = tt
samples-take (suc n) (x ∷ xs) p = (p.0, samples-take n xs p.1)

pub samples-drop : (n : ℕ) (xs : List ℤ) → Samples xs → Samples (drop n xs)
samples-drop zero xs p = p
samples-drop (suc n) [] p = tt
samples-drop (suc n) (x ∷ xs) p = samples-drop n xs p.1

-- squares
sample-size : (x : ℤ) → Sample x → nat_abs x ≤ 2 ^ 15
sample-size (pos n) h = omega arith
sample-size (negsuc n) h = omega arith

pub square_le : (x : ℤ) → Sample x → square x ≤ 2 ^ 30
square_le x h = mul-le-mul (sample-size x h) (sample-size x h)

pub squares-le : (xs : List ℤ) → Samples xs → squares xs ≤ length xs * 2 ^ 30
squares-le [] p = omega arith
squares-le (x ∷ xs) p = omega (arith, square_le x p.0, squares-le xs p.1)

pub squares-append : (xs ys : List ℤ) → squares (xs ++ ys) ≡ squares xs + squares ys
squares-append [] ys = omega arith
squares-append (x ∷ xs) ys = omega (arith, squares-append xs ys)

-- a part of a recording that is there already does not change
part-grow : (rec xs : List ℤ) (a n : ℕ) → a + n ≤ length rec → take n (drop a (rec ++ xs)) ≡ take n (drop a rec)
part-grow rec xs a n h = rw (drop-append-le a rec xs (omega arith)) (take-append-le n (drop a rec) xs (simp length-drop (omega arith)))

pub any_clipped-append : (xs ys : List ℤ) → any_clipped (xs ++ ys) ≡ (any_clipped xs || any_clipped ys)
any_clipped-append [] ys = refl
any_clipped-append (x ∷ xs) ys = ap (λ (b : Bool). clipped x || b) (any_clipped-append xs ys) ∙ sym (or_assoc (clipped x) (any_clipped xs) (any_clipped ys))

half-end : (h m n : ℕ) → 1 ≤ h → h * m ≤ n → (h - 1) * m + m ≤ n
half-end h m n p q = let e : h ≡ (h - 1) + 1 = omega arith in omega (arith, ap (λ (x : ℕ). x * m) e, add-mul (h - 1) 1 m)

pub length-history : (s : Settings) (rec : List ℤ) (i : ℕ) → length (history s rec i) ≡ i
length-history s rec zero = refl
length-history s rec (suc i) = ap suc (length-history s rec i)

pub length-marks : (s : Settings) (rec : List ℤ) (i : ℕ) → length (marks s rec i) ≡ i
length-marks s rec zero = refl
length-marks s rec (suc i) = ap suc (length-marks s rec i)

-- a recording that grows by xs
module _ (s : Settings) (rec xs : List ℤ) where
  pub half-grow : (h : ℕ) → 1 ≤ h → h * s.samples ≤ length rec → half s (rec ++ xs) h ≡ half s rec h
  half-grow h p q = part-grow rec xs ((h - 1) * s.samples) s.samples (half-end h s.samples (length rec) p q)

  module _ (some : 0 < s.samples) where
    pub halves-grow : halves s rec ≤ halves s (rec ++ xs)
    halves-grow = rw length-append (div-grow (length rec) (length xs) s.samples some)

    pub value_count-grow : value_count s rec ≤ value_count s (rec ++ xs)
    value_count-grow = let h = halves-grow in omega arith

    -- the half-cycles of a value do not change, and so its size and its mark
    module _ (i : ℕ) (p : 1 ≤ i) (q : i ≤ value_count s rec) where
      first-same : half s (rec ++ xs) i ≡ half s rec i
      first-same = half-grow i p ((le-div_iff_mul-le some).0 (omega arith))

      second-same : half s (rec ++ xs) (i + 1) ≡ half s rec (i + 1)
      second-same = half-grow (i + 1) (omega arith) ((le-div_iff_mul-le some).0 (omega arith))

      pub value-grow : value s (rec ++ xs) i ≡ value s rec i
      value-grow = λ j. rms s.samples (squares (first-same j)) (squares (second-same j))

      pub value_clipped-grow : value_clipped s (rec ++ xs) i ≡ value_clipped s rec i
      value_clipped-grow = λ j. any_clipped (first-same j) || any_clipped (second-same j)

    pub history-grow : (i : ℕ) → i ≤ value_count s rec → history s (rec ++ xs) i ≡ history s rec i
    history-grow zero q = refl
    history-grow (suc i) q = ap₂ ◌∷◌ (value-grow (suc i) (omega arith) q) (history-grow i (omega arith))

    pub marks-grow : (i : ℕ) → i ≤ value_count s rec → marks s (rec ++ xs) i ≡ marks s rec i
    marks-grow zero q = refl
    marks-grow (suc i) q = ap₂ ◌∷◌ (ap flag (value_clipped-grow (suc i) (omega arith) q)) (marks-grow i (omega arith))

    pub records_at-grow : (i : ℕ) → i ≤ value_count s rec → records_at s (rec ++ xs) i ≡ records_at s rec i
    records_at-grow i q = λ j. map (record_of (marks-grow i q j)) (due s (history-grow i q j))

    -- samples that complete no half-cycle
    module _ (h : length rec % s.samples + length xs < s.samples) where
      pub halves-same : halves s (rec ++ xs) ≡ halves s rec
      halves-same = rw length-append (div_same (length rec) (length xs) s.samples h)

      pub value_count-same : value_count s (rec ++ xs) ≡ value_count s rec
      value_count-same = ap (λ (n : ℕ). n - 1) halves-same

    -- the samples that complete the half-cycle in progress
    module _ (h : length rec % s.samples + length xs ≡ s.samples) where
      pub halves-next : halves s (rec ++ xs) ≡ halves s rec + 1
      halves-next = rw length-append (div-next (length rec) (length xs) s.samples some h)

      pub value_count-next : 1 ≤ halves s rec → value_count s (rec ++ xs) ≡ value_count s rec + 1
      value_count-next p = omega (arith, halves-next)

      pub value_count-first : halves s rec ≡ 0 → value_count s (rec ++ xs) ≡ 0
      value_count-first p = omega (arith, halves-next)

-- 01's sentence: the greatest r with r² × 2 × M ≤ 256 × (a + b)
pub rms-is : (m a b : ℕ) → 0 < m → Greatest (λ (r : ℕ). r * r * (2 * m) ≤ 256 * (a + b)) (rms m a b)
rms-is m a b h =
    let p : 0 < 2 * m = omega arith in
    record {
      holds = (le-div_iff_mul-le p).0 (root_is (256 * (a + b) / (2 * m))).low;
      most = λ k g. root-most (256 * (a + b) / (2 * m)) k ((le-div_iff_mul-le p).1 g);
    }

pub value-is : (s : Settings) (rec : List ℤ) (i : ℕ) → 0 < s.samples
    → Greatest (λ (r : ℕ). r * r * (2 * s.samples) ≤ 256 * (energy s rec i + energy s rec (i + 1))) (value s rec i)
value-is s rec i h = rms-is s.samples (energy s rec i) (energy s rec (i + 1)) h

-- and never above 524,288
pub rms-le : (m a b : ℕ) → 0 < m → a ≤ m * 2 ^ 30 → b ≤ m * 2 ^ 30 → rms m a b ≤ 524288
rms-le m a b h p q = root-le (256 * (a + b) / (2 * m)) 524288 ((div-lt_iff_lt-mul (omega arith)).1 (omega arith))

module _ (s : Settings) (rec : List ℤ) (are : Samples rec) where
  pub energy-le : (h : ℕ) → energy s rec h ≤ s.samples * 2 ^ 30
  energy-le h =
      let before = drop ((h - 1) * s.samples) rec in
      let bound = squares-le (take s.samples before) (samples-take s.samples before (samples-drop ((h - 1) * s.samples) rec are)) in
      omega (arith, bound, length-take s.samples before)

  pub value-le : 0 < s.samples → (i : ℕ) → value s rec i ≤ 524288
  value-le p i = rms-le s.samples (energy s rec i) (energy s rec (i + 1)) p (energy-le i) (energy-le (i + 1))
