-- The window's step, and what a history leaves in it; of marks as of values. The window has 120 places, of which the first N at most are used, oldest first.
use Rattle.std.specs.Prelude.{◌≡◌, ℕ, ◌-◌, List, ◌∷◌, ◌++◌, length, take, drop, slice_index, slice_range, slice_set, if◌then◌else◌}
use Rattle.numbers.specs.Notation.{◌<ᵇ◌}
use Rattle.numbers.specs.Rules.{Holds}
use Rattle.numbers.specs.Rules.Rule.{all_up_to}
use Rattle.reading.specs.Layout.{places}
use Rattle.reading.specs.Image.{places_of}
use Rattle.reading.specs.Restore.{places_rule}

-- value r after v values, n of them kept
abbrev pub pushed : {A : Type 0} → ℕ → ℕ → List A → A → List A
pushed n v w r = if v <ᵇ n then slice_set w v r else slice_range w 1 n ++ (r ∷ drop n w)

-- the values that stay with it in the window of n; and the one that leaves, 0 where none does
abbrev pub staying : ℕ → ℕ → List ℕ → List ℕ
staying n v w = take (n - 1) (drop (if v <ᵇ n then 0 else 1) w)

abbrev pub leaving : ℕ → ℕ → List ℕ → ℕ
leaving n v w = if v <ᵇ n then 0 else slice_index w 0

-- what a history leaves
abbrev pub window_of : ℕ → List ℕ → List ℕ
window_of n hist = places_of n hist

-- no number is above a bound
abbrev pub Small : ℕ → List ℕ → Type 0
Small most l = Holds (all_up_to most l)

-- what refusal 11 allows of the places of a window of n, after v values: of values with the bound 524,288, of marks with 1
pub record ValidWindow (most n v : ℕ) (w : List ℕ) : Type 0 where
  pub size : length w ≡ places
  pub allowed : Holds (places_rule most n v w)
