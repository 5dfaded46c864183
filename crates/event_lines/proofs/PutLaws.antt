-- Text that is put at a place of a buffer, the digits that `io` makes of a number, and one line more: laws that follow from the definitions of the lines.
use Rattle.std.specs.Prelude.{◌≡◌, refl, Bool, true, false, List, [], ◌∷◌, ◌++◌, ℕ, zero, suc, ◌+◌, ◌-◌, ◌/◌, ◌%◌, ◌^◌, ◌≤◌, ◌<◌, length, take, drop, set, get_or, if◌then◌else◌}
use Rattle.std.proofs.Common.{sym, ◌∙◌, ap, subst, append_assoc, append-nil, arith, pow-suc, length-append, take_all, take-suc, take-suc-set, drop-drop, drop-set-lt}
use Rattle.std.proofs.Math.Path.{subst⁻¹}
use Rattle.std.proofs.Math.Nat.{one-le-pow, pow-le-pow_right}
use Rattle.std.proofs.Math.Decide.{dec_lt}
use borrow.Author.Tests.{lt-ltb, le-ltb, eq-eqb, ne_eqb}
use Rattle.io.specs.Digits.{last_digits, hex_digit_ascii, IsDigitCount}
use Rattle.numbers.specs.Notation.{◌<ᵇ◌}
use Rattle.reading.specs.declared.Event.{Event}
use Rattle.reading.specs.Records.{event_of}
use Rattle.records.specs.ListLaws.{record_at, record_is}
use Rattle.event_lines.specs.Text.{decimal_to, column, dip, swell, interruption, rvc, kind_name, line_of, lines_of}

-- bytes are put at a place of a text; the text before and behind them stays, and the place behind them is told
pub record Put (text : List ℕ) (at : ℕ) (bytes : List ℕ) (behind : ℕ) (after : List ℕ) : Type 0 where
  pub behind-is : behind ≡ at + length bytes
  pub text-is : take behind after ≡ take at text ++ bytes
  pub rest-is : drop behind after ≡ drop behind text

-- a column is 21 bytes long at most
length-decimal : (k n : ℕ) → length (decimal_to k n) ≤ k
length-decimal zero n = omega arith
length-decimal (suc k) n = go (n <ᵇ 10) (length-decimal k (n / 10))
  where
    go : (b : Bool) → length (decimal_to k (n / 10)) ≤ k → length (if b then (48 + n) ∷ [] else decimal_to k (n / 10) ++ ((48 + n % 10) ∷ [])) ≤ suc k
    go true ih = omega arith
    go false ih = omega (arith, length-append (decimal_to k (n / 10)) ((48 + n % 10) ∷ []))

pub length-column : (n : ℕ) → length (column n) ≤ 21
unfolding column
length-column n = omega (arith, length-decimal 20 n)

-- a digit in ASCII
glyph-is : (d : ℕ) → d < 10 → hex_digit_ascii d ≡ 48 + d
glyph-is d h = rw (lt-ltb d 10 h)

-- `io` makes the fewest digits that hold a number, which are the number's; of 8 bytes 20 at most
digits_decimal : (f k n : ℕ) → k ≤ f → IsDigitCount 10 1 n k → last_digits 10 k n ≡ decimal_to f n
digits_decimal f zero n h few = absurd (omega arith)
digits_decimal zero (suc k) n h few = absurd (omega arith)
digits_decimal (suc f) (suc zero) n h few =
    let below : n < 10 = omega arith in
    let same : n % 10 ≡ n = omega arith in
    (λ i. hex_digit_ascii (same i) ∷ []) ∙ ap (λ (d : ℕ). d ∷ []) (glyph-is n below) ∙ rw (lt-ltb n 10 below)
digits_decimal (suc f) (suc (suc k)) n h few =
    let least : 10 ^ suc k ≤ n = let e : suc (suc k) - 1 ≡ suc k = omega arith in subst (λ (j : ℕ). 10 ^ j ≤ n) e (few.2 (omega arith)) in
    let ten : 10 ≤ n = omega (arith, pow-suc 10 k, one-le-pow k 10 (omega arith)) in
    let fewer : 10 ^ k ≤ n / 10 = omega (arith, pow-suc 10 k, least) in
    let e : k ≡ suc k - 1 = omega arith in
    let later : IsDigitCount 10 1 (n / 10) (suc k) = (omega arith, omega (arith, pow-suc 10 (suc k)), λ more. subst (λ (j : ℕ). 10 ^ j ≤ n / 10) e fewer) in
    ap (λ (l : List ℕ). l ++ (hex_digit_ascii (n % 10) ∷ [])) (digits_decimal f (suc k) (n / 10) (omega arith) later)
    ∙ ap (λ (d : ℕ). decimal_to f (n / 10) ++ (d ∷ [])) (glyph-is (n % 10) (omega arith))
    ∙ rw (le-ltb n 10 ten)

pub digits-most : (n k : ℕ) → n < 2 ^ 64 → IsDigitCount 10 1 n k → k ≤ 20
digits-most n k h few = go (dec_lt 20 k)
  where
    go : Dec (20 < k) → k ≤ 20
    go (yes more) =
        let ten : 0 < 10 = omega arith in
        let long : 20 ≤ k - 1 = omega arith in
        let power : 10 ^ 20 ≤ 10 ^ (k - 1) = pow-le-pow_right ten long in
        let least : 10 ^ (k - 1) ≤ n = few.2 (omega arith) in
        absurd (omega arith)
    go (no f) = omega (arith, f)

-- what is the same from a place on is so from a later one on
rest-later : (n k : ℕ) (t u : List ℕ) → drop n t ≡ drop n u → drop (n + k) t ≡ drop (n + k) u
rest-later n k t u e = sym (drop-drop k n t) ∙ ap (λ (l : List ℕ). drop k l) e ∙ drop-drop k n u

-- text behind text
pub put-put : (t₀ t₁ t₂ : List ℕ) (at b₁ b₂ : ℕ) (xs ys : List ℕ) → Put t₀ at xs b₁ t₁ → Put t₁ b₁ ys b₂ t₂ → Put t₀ at (xs ++ ys) b₂ t₂
put-put t₀ t₁ t₂ at b₁ b₂ xs ys p q = record {
  behind-is = omega (arith, p.behind-is, q.behind-is, length-append xs ys);
  text-is = q.text-is ∙ ap (λ (t : List ℕ). t ++ ys) p.text-is ∙ append_assoc (take at t₀) xs ys;
  rest-is = q.rest-is ∙ subst⁻¹ (λ (n : ℕ). drop n t₁ ≡ drop n t₀) q.behind-is (rest-later b₁ (length ys) t₁ t₀ p.rest-is);
}

-- no text
pub put-nothing : (t : List ℕ) (at : ℕ) → Put t at [] at t
put-nothing t at = record { behind-is = omega arith; text-is = sym (append-nil (take at t)); rest-is = refl }

-- bytes put one by one: the first i of them stand at the place
module _ (t₀ : List ℕ) (at : ℕ) (b : List ℕ) where
  abbrev pub PutSoFar : ℕ → List ℕ → Type 0
  PutSoFar i t = (take (at + i) t ≡ take at t₀ ++ take i b) × (drop (at + i) t ≡ drop (at + i) t₀)

  pub put-none : PutSoFar 0 t₀
  put-none = let e : at + 0 ≡ at = omega arith in (ap (λ (n : ℕ). take n t₀) e ∙ sym (append-nil (take at t₀)), refl)

  pub put_one : (i : ℕ) (t : List ℕ) → at + i < length t → i < length b → PutSoFar i t → PutSoFar (i + 1) (set t (at + i) (get_or b i 0))
  put_one i t h l e =
      let x : ℕ = get_or b i 0 in
      let n : at + (i + 1) ≡ suc (at + i) = omega arith in
      let k : suc i ≡ i + 1 = omega arith in
      let j : at + (i + 1) ≡ at + i + 1 = omega arith in (
        ap (λ (m : ℕ). take m (set t (at + i) x)) n
            ∙ take-suc-set t (at + i) x h
            ∙ ap (λ (l : List ℕ). l ++ (x ∷ [])) e.0
            ∙ append_assoc (take at t₀) (take i b) (x ∷ [])
            ∙ ap (λ (l : List ℕ). take at t₀ ++ l) (sym (take-suc b i 0 l) ∙ ap (λ (m : ℕ). take m b) k),
        drop-set-lt (at + (i + 1)) t (at + i) x (omega arith) ∙ subst⁻¹ (λ (m : ℕ). drop m t ≡ drop m t₀) j (rest-later (at + i) 1 t t₀ e.1),
      )

  pub put_all : (i : ℕ) (t : List ℕ) → i ≡ length b → PutSoFar i t → Put t₀ at b (at + i) t
  put_all i t whole e = record {
    behind-is = ap (λ (n : ℕ). at + n) whole;
    text-is = e.0 ∙ ap (λ (l : List ℕ). take at t₀ ++ l) (take_all i b (omega arith));
    rest-is = e.1;
  }

-- the same text, said otherwise
pub put_as : (t : List ℕ) (at : ℕ) (xs ys : List ℕ) (b : ℕ) (u : List ℕ) → xs ≡ ys → Put t at xs b u → Put t at ys b u
put_as t at xs ys b u e p = subst (λ (l : List ℕ). Put t at l b u) e p

-- a name and a column, as they are put
module _ (k : ℕ) where
  pub name-dip : k ≡ 1 → dip ≡ kind_name k
  unfolding kind_name
  name-dip e = rw (eq-eqb k 1 e)

  pub name-swell : (k ≡ 1 → ⊥) → k ≡ 2 → swell ≡ kind_name k
  unfolding kind_name
  name-swell f e = rw (ne_eqb k 1 f, eq-eqb k 2 e)

  pub name-interruption : (k ≡ 1 → ⊥) → (k ≡ 2 → ⊥) → k ≡ 3 → interruption ≡ kind_name k
  unfolding kind_name
  name-interruption f g e = rw (ne_eqb k 1 f, ne_eqb k 2 g, eq-eqb k 3 e)

  pub name-rvc : (k ≡ 1 → ⊥) → (k ≡ 2 → ⊥) → (k ≡ 3 → ⊥) → rvc ≡ kind_name k
  unfolding kind_name
  name-rvc f g h = rw (ne_eqb k 1 f, ne_eqb k 2 g, ne_eqb k 3 h)

pub column-is : (n k : ℕ) (b : List ℕ) → n < 2 ^ 64 → IsDigitCount 10 1 n k → take k b ≡ last_digits 10 k n → 32 ∷ take k b ≡ column n
unfolding column
column-is n k b h few e = ap (λ (l : List ℕ). 32 ∷ l) (e ∙ digits_decimal 20 k n (digits-most n k h few) few)

-- a record's line behind those of the records before it
pub lines_next : (records t₀ t u : List ℕ) (i at b : ℕ) (e : Event) → Put t₀ 0 (lines_of i records) at t → e ≡ event_of (record_at records i)
    → Put t at (line_of e) b u → Put t₀ 0 (lines_of (i + 1) records) b u
lines_next records t₀ t u i at b e before is p =
    let k : suc i ≡ i + 1 = omega arith in
    put_as _ _ _ _ _ _
    (ap (λ (x : Event). lines_of i records ++ line_of x) is
    ∙ ap (λ (l : List ℕ). lines_of i records ++ line_of (event_of l)) (record_is records i)
    ∙ ap (λ (l : ℕ). lines_of l records) k)
    (put-put t₀ t u 0 at b (lines_of i records) (line_of e) before p)
