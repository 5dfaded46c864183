-- The range is the test: 01's comparison of every value of the pushed window, from the values that stay, the new one and their sum.
use Rattle.std.specs.Prelude.{◌≡◌, ℕ, suc, ◌+◌, ◌*◌, ◌/◌, ◌<◌, ◌≤◌, Bool, true, false, ◌&&◌, List, [], ◌∷◌, ◌++◌, length, refl}
use Rattle.std.proofs.Common.{sym, ◌∙◌, arith, mul_comm, suc-mul, le-div_iff_mul-le, div-lt_iff_lt-mul, le-leb, leb-true, leb-false}
use Rattle.std.proofs.Math.Bool.{and-true, and_comm}
use Rattle.std.proofs.lemmas.Bool.{lt-leb}
use Rattle.numbers.specs.Notation.{◌≤ᵇ◌, all}
use Rattle.numbers.specs.NotationLaws.{and-true as both, and-fails}
use Rattle.settings.specs.declared.Settings.{Settings}
use Rattle.settings.specs.Settings.{window_length_of}
use Rattle.settings.specs.SettingsLaws.{window_length_of-some}
use Rattle.reading.specs.Changes.{sum, gap, within, calm}
use Rattle.window.specs.Window.{pushed, staying}
use Rattle.window.specs.WindowLaws.{all_append, take-pushed, sum-after}
use Rattle.window.specs.Range.{lowest, highest, between, calm_with}

-- where x lies, by n × x: above the range, below it, or in it
module _ (n a q : ℕ) (some : 0 < n) (x : ℕ) where
  pub above-range : a + q < n * x → between (lowest n a q) (highest n a q) x ≡ false
  above-range h =
      let high : highest n a q < x = (div-lt_iff_lt-mul some).1 (omega (arith, mul_comm n x)) in
      and_comm (lowest n a q ≤ᵇ x) (x ≤ᵇ highest n a q) ∙ and-fails _ (lt-leb x (highest n a q) high)

  pub below-range : n * x + q < a → between (lowest n a q) (highest n a q) x ≡ false
  below-range h =
      let low : suc x ≤ lowest n a q = (le-div_iff_mul-le some).1 (omega (arith, mul_comm n x, suc-mul x n)) in
      and-fails _ (lt-leb (lowest n a q) x (omega arith))

  lowest-le : a ≤ n * x + q → lowest n a q ≤ x
  lowest-le h = let low : lowest n a q < suc x = (div-lt_iff_lt-mul some).1 (omega (arith, mul_comm n x, suc-mul x n)) in omega arith

  le-highest : n * x ≤ a + q → x ≤ highest n a q
  le-highest h = (le-div_iff_mul-le some).1 (omega (arith, mul_comm n x))

  pub in-range : n * x ≤ a + q → a ≤ n * x + q → between (lowest n a q) (highest n a q) x ≡ true
  in-range above below = both (le-leb (lowest n a q) x (lowest-le below)) (le-leb x (highest n a q) (le-highest above))

  -- so the ends are in order
  pub lowest-le-highest : n * x ≤ a + q → a ≤ n * x + q → lowest n a q ≤ highest n a q
  lowest-le-highest above below = omega (arith, lowest-le below, le-highest above)

-- 10000 × |n × x − a| ≤ limit is that range, with q = limit / 10000
module _ (n a limit : ℕ) (some : 0 < n) where
  range-is : (x : ℕ) → within n a limit x ≡ between (lowest n a (limit / 10000)) (highest n a (limit / 10000)) x
  range-is x = go (n * x ≤ᵇ a + q) (a ≤ᵇ n * x + q) refl refl
    where
      q : ℕ
      q = limit / 10000

      go : (b c : Bool) → (n * x ≤ᵇ a + q) ≡ b → (a ≤ᵇ n * x + q) ≡ c → within n a limit x ≡ between (lowest n a q) (highest n a q) x
      go true true p r =
          let above = leb-true _ _ p in
          let below = leb-true _ _ r in
          le-leb (10000 * gap (n * x) a) limit (omega arith) ∙ sym (in-range n a q some x above below)
      go true false p r =
          let below = leb-false _ _ r in
          lt-leb (10000 * gap (n * x) a) limit (omega arith) ∙ sym (below-range n a q some x below)
      go false c p r =
          let above = leb-false _ _ p in
          lt-leb (10000 * gap (n * x) a) limit (omega arith) ∙ sym (above-range n a q some x above)

  all-range : (l : List ℕ) → all (within n a limit) l ≡ all (between (lowest n a (limit / 10000)) (highest n a (limit / 10000))) l
  all-range [] = refl
  all-range (x ∷ l) = λ i. range-is x i && all-range l i

-- 01's test of the pushed window is the code's
pub calm-pushed : (s : Settings) (t v r : ℕ) (w : List ℕ) → window_length_of s ≤ suc v → window_length_of s ≤ length w →
    calm s t (pushed (window_length_of s) v w r)
    ≡ calm_with (window_length_of s) (sum (staying (window_length_of s) v w) + r) (t * window_length_of s * s.declared / 10000) (staying (window_length_of s) v w) r
calm-pushed s t v r w full long =
    let n : ℕ = window_length_of s in
    let some : 0 < n = window_length_of-some s in
    let stay : List ℕ = staying n v w in
    let a : ℕ = sum stay + r in
    let limit : ℕ = t * n * s.declared in
    let inside : ℕ → Bool = between (lowest n a (limit / 10000)) (highest n a (limit / 10000)) in
    (λ i. all (within n (sum-after n v r w some full long i) limit) (take-pushed n v r w some full long i))
    ∙ all-range n a limit some (stay ++ (r ∷ []))
    ∙ all_append inside stay (r ∷ [])
    ∙ (λ i. all inside stay && and-true (inside r) i)
    ∙ and_comm (all inside stay) (inside r)
