-- A rule over numbers is said once, and is read two ways: as a test, which refuses (`passes`), and as a fact, which can be relied on (`Holds`). That the two
-- agree is proved in RulesLaws.
use Rattle.std.specs.Prelude.{◌≡◌, ◌⊎◌, Bool, not, ◌&&◌, ◌||◌, List, ℕ, ◌≤◌, ◌<◌, get_or}
use Rattle.std.specs.Bool.{beq as iff}
use Rattle.numbers.specs.Notation.{◌≤ᵇ◌, ◌<ᵇ◌, ◌≡ᵇ◌, all}

infix 40 ◌≤ʳ◌ ◌<ʳ◌ ◌≡ʳ◌
infixr 30 ◌and◌
infixr 25 ◌or◌
infix 35 ◌implies◌ ◌exactly-when◌
pub data Rule : Type 0 where
  ◌≤ʳ◌ : ℕ → ℕ → Rule
  ◌<ʳ◌ : ℕ → ℕ → Rule
  ◌≡ʳ◌ : ℕ → ℕ → Rule
  -- each number of a list is at most a bound; is 0
  all_up_to : ℕ → List ℕ → Rule
  all_zero : List ℕ → Rule
  ◌and◌ : Rule → Rule → Rule
  ◌or◌ : Rule → Rule → Rule
  ◌implies◌ : Rule → Rule → Rule
  ◌exactly-when◌ : Rule → Rule → Rule

abbrev pub passes : Rule → Bool
passes (a ≤ʳ b) = a ≤ᵇ b
passes (a <ʳ b) = a <ᵇ b
passes (a ≡ʳ b) = a ≡ᵇ b
passes (all_up_to b l) = all (◌≤ᵇ b) l
passes (all_zero l) = all (◌≡ᵇ 0) l
passes (p and q) = passes p && passes q
passes (p or q) = passes p || passes q
passes (p implies q) = not (passes p) || passes q
passes (p exactly-when q) = iff (passes p) (passes q)

abbrev pub Holds : Rule → Type 0
Holds (a ≤ʳ b) = a ≤ b
Holds (a <ʳ b) = a < b
Holds (a ≡ʳ b) = a ≡ b
Holds (all_up_to b l) = (i : ℕ) → get_or l i 0 ≤ b
Holds (all_zero l) = (i : ℕ) → get_or l i 0 ≡ 0
Holds (p and q) = Holds p × Holds q
Holds (p or q) = Holds p ⊎ Holds q
Holds (p implies q) = Holds p → Holds q
Holds (p exactly-when q) = (Holds p → Holds q) × (Holds q → Holds p)
