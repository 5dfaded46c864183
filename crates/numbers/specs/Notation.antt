-- The few symbols that the readings are written with, over the logic's own tests on numbers.
use Rattle.std.specs.Prelude.{Bool, true, false, ◌&&◌, List, [], ◌∷◌, ℕ, leb, ltb, eqb}

infix 40 ◌≤ᵇ◌ ◌<ᵇ◌ ◌≡ᵇ◌
abbrev pub ◌≤ᵇ◌ : ℕ → ℕ → Bool
a ≤ᵇ b = leb a b

abbrev pub ◌<ᵇ◌ : ℕ → ℕ → Bool
a <ᵇ b = ltb a b

abbrev pub ◌≡ᵇ◌ : ℕ → ℕ → Bool
a ≡ᵇ b = eqb a b

-- 1 for yes, 0 for no
abbrev pub flag : Bool → ℕ
flag true = 1
flag false = 0

-- every number of a list passes a test
abbrev pub all : (ℕ → Bool) → List ℕ → Bool
all test [] = true
all test (x ∷ xs) = test x && all test xs

-- the refusal n where the test fails, else the rest; 0 is no refusal
infix 10 refuse◌unless◌then◌
abbrev pub refuse◌unless◌then◌ : ℕ → Bool → ℕ → ℕ
refuse n unless true then rest = rest
refuse n unless false then rest = n
