-- 01, "From samples to values". A recording is a list of samples, the first one first; a history is a list of values, the newest first.
use Rattle.std.specs.Prelude.{true, false, List, [], ◌∷◌, ℕ, zero, suc, ◌+◌, ◌-◌, ◌*◌, ◌/◌, ◌^◌, ◌<◌, length, take, drop, ℤ, pos, negsuc, nat_abs, if◌then◌else◌}
use Rattle.settings.specs.declared.Settings.{Settings}
use Rattle.numbers.specs.Notation.{◌≤ᵇ◌, ◌≡ᵇ◌}

-- a sample is a signed 16-bit count: −32768 (`negsuc 32767`) to 32767
abbrev pub Sample : ℤ → Type 0
Sample (pos n) = n < 2 ^ 15
Sample (negsuc n) = n < 2 ^ 15

abbrev pub Samples : List ℤ → Type 0
Samples [] = Unit {0}
Samples (x ∷ xs) = Sample x × Samples xs

-- the square of a sample
abbrev pub square : ℤ → ℕ
square x = nat_abs x * nat_abs x

-- the sum of squares of samples
abbrev pub squares : List ℤ → ℕ
squares [] = 0
squares (x ∷ xs) = square x + squares xs

-- half-cycle h, from 1: samples (h − 1) × M + 1 to h × M
abbrev pub half : Settings → List ℤ → ℕ → List ℤ
half s rec h = take s.samples (drop ((h - 1) * s.samples) rec)

-- E(h): the sum of squares of half-cycle h
abbrev pub energy : Settings → List ℤ → ℕ → ℕ
energy s rec h = squares (half s rec h)

-- the root of a number is found from the root of its quarter, down to zero. The first argument bounds how often, and n is often enough for n
abbrev pub root_by : ℕ → ℕ → ℕ
root_by zero n = 0
root_by (suc k) n = elim (n ≡ᵇ 0) [ true ↦ 0 | false ↦ let q = 2 * root_by k (n / 4) in if (q + 1) * (q + 1) ≤ᵇ n then q + 1 else q ]

-- the greatest number whose square is at most n: `root-greatest` of reading_laws
unfoldable pub root : ℕ → ℕ
root n = root_by n n

-- the greatest r with r² × 2 × M ≤ 256 × (a + b): `value-greatest` of reading_laws
abbrev pub rms : ℕ → ℕ → ℕ → ℕ
rms m a b = root (256 * (a + b) / (2 * m))

-- r(i), from 1: the RMS value of half-cycles i and i + 1 in sixteenths of a count
abbrev pub value : Settings → List ℤ → ℕ → ℕ
value s rec i = rms s.samples (energy s rec i) (energy s rec (i + 1))

-- the whole half-cycles
abbrev pub halves : Settings → List ℤ → ℕ
halves s rec = length rec / s.samples

-- the samples of the half-cycle in progress
abbrev pub in_progress : Settings → List ℤ → List ℤ
in_progress s rec = drop (halves s rec * s.samples) rec

-- V: r(i) exists once half-cycle i + 1 is whole. (V's end is kept by feed.)
abbrev pub value_count : Settings → List ℤ → ℕ
value_count s rec = halves s rec - 1

-- r(i) back to r(1)
abbrev pub history : Settings → List ℤ → ℕ → List ℕ
history s rec zero = []
history s rec (suc i) = value s rec (suc i) ∷ history s rec i

-- all values of a recording
abbrev pub values : Settings → List ℤ → List ℕ
values s rec = history s rec (value_count s rec)

-- the values of a history from value a on
abbrev pub since : ℕ → List ℕ → List ℕ
since a hist = take (suc (length hist) - a) hist

-- a history as it stood after value i
abbrev pub up_to : {X : Type 0} → ℕ → List X → List X
up_to i hist = drop (length hist - i) hist
