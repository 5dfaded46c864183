-- A count's two words are its 8 bytes: the words, joined so, are the numbers of the body.
use mathlib.Core.Path.{◌≡◌, refl, ◌∙◌, ap, ap₂}
use mathlib.Core.Bool.{Bool, true, false}
use mathlib.Core.List.{List, [], ◌∷◌}
use Prim.Native.Nat.{ℕ, ◌+◌, ◌*◌}
use native.Mathlib.Omega.{arith}
use lib.ListN.{take, drop, get_or, replicate}
use lib.Seq.{drop-drop}
use Rattle.octets.specs.Bytes.{number_of, numbers_in}
use Rattle.reading.specs.Layout.{events_widths}
use Rattle.bodies.proofs.events_numbers.Goals as goal

abbrev joined : ℕ → ℕ → ℕ
joined low high = low + 4294967296 * high

two-words : (b : List ℕ) → joined (number_of (take 4 b)) (number_of (take 4 (drop 4 b))) ≡ number_of (take 8 b)
two-words [] = omega arith
two-words (p ∷ []) = omega arith
two-words (p ∷ q ∷ []) = omega arith
two-words (p ∷ q ∷ r ∷ []) = omega arith
two-words (p ∷ q ∷ r ∷ s ∷ []) = omega arith
two-words (p ∷ q ∷ r ∷ s ∷ t ∷ []) = omega arith
two-words (p ∷ q ∷ r ∷ s ∷ t ∷ u ∷ []) = omega arith
two-words (p ∷ q ∷ r ∷ s ∷ t ∷ u ∷ v ∷ []) = omega arith
two-words (p ∷ q ∷ r ∷ s ∷ t ∷ u ∷ v ∷ w ∷ b) = omega arith

-- numbers of one word, or of two where it is a count
abbrev widths_of : List Bool → List ℕ
widths_of [] = []
widths_of (true ∷ cs) = 8 ∷ widths_of cs
widths_of (false ∷ cs) = 4 ∷ widths_of cs

abbrev read : List Bool → List ℕ → List ℕ
read [] b = []
read (true ∷ cs) b = joined (number_of (take 4 b)) (number_of (take 4 (drop 4 b))) ∷ read cs (drop 4 (drop 4 b))
read (false ∷ cs) b = number_of (take 4 b) ∷ read cs (drop 4 b)

read_is : (cs : List Bool) (b : List ℕ) → read cs b ≡ numbers_in (widths_of cs) b
read_is [] b = refl
read_is (true ∷ cs) b = ap₂ ◌∷◌ (two-words b) (read_is cs (drop 4 (drop 4 b)) ∙ ap (numbers_in (widths_of cs)) (drop-drop 4 4 b))
read_is (false ∷ cs) b = ap (λ (l : List ℕ). number_of (take 4 b) ∷ l) (read_is cs (drop 4 b))

-- the words of body 4, joined
abbrev joined_words : List ℕ → List ℕ
joined_words w =
    get_or w 0 0 ∷ joined (get_or w 1 0) (get_or w 2 0) ∷ get_or w 3 0 ∷ get_or w 4 0 ∷ joined (get_or w 5 0) (get_or w 6 0)
    ∷ joined (get_or w 7 0) (get_or w 8 0) ∷ get_or w 9 0 ∷ joined (get_or w 10 0) (get_or w 11 0) ∷ get_or w 12 0 ∷ joined (get_or w 13 0) (get_or w 14 0) ∷ get_or w 15 0
    ∷ get_or w 16 0 ∷ get_or w 17 0 ∷ get_or w 18 0 ∷ get_or w 19 0 ∷ []

words_are : (b : List ℕ) → joined_words (numbers_in (replicate 20 4) b) ≡ numbers_in events_widths b
words_are b =
    read_is
    (false ∷ true ∷ false ∷ false ∷ true ∷ true ∷ false ∷ true ∷ false ∷ true ∷ false ∷ false ∷ false ∷ false ∷ false ∷ [])
    b

pub returns : goal.returns
returns c =
    (λ i. c.from.ensures i ∷ c.wide.ensures i ∷ c.from-2.ensures i ∷ c.from-3.ensures i
    ∷ c.wide-2.ensures i ∷ c.wide-3.ensures i ∷ c.from-4.ensures i
    ∷ c.wide-4.ensures i ∷ c.from-5.ensures i ∷ c.wide-5.ensures i ∷ c.from-6.ensures i
    ∷ c.from-7.ensures i ∷ c.from-8.ensures i ∷ c.from-9.ensures i ∷ c.from-10.ensures i ∷ [])
    ∙ (ap joined_words c.get_words.ensures ∙ words_are c.args.part.now)
