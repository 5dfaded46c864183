-- Text that is written from its start: one byte more in base sixteen, and all of them.
use Rattle.std.specs.Prelude.{◌≡◌, refl, List, [], ◌∷◌, ◌++◌, ℕ, suc, ◌+◌, ◌*◌, ◌/◌, ◌%◌, ◌≤◌, ◌<◌, length, take, drop, get_or, set}
use Rattle.std.proofs.Common.{sym, ◌∙◌, ap, ap₂, append_assoc, arith, add-one, length-append, drop-cons, take-suc, take_all, length-take-le}
use Rattle.std.proofs.lemmas.List.{set_at}
use Rattle.std.proofs.Math.Seq.{append_snoc}
use Rattle.call_items.specs.Items.{digit_of, hex_of}

-- a list begins with p and goes on as it was: one element more
pub set_next : (t₀ t p : List ℕ) (n a : ℕ) → t ≡ p ++ drop n t₀ → length p ≡ n → n < length t₀ → set t n a ≡ (p ++ (a ∷ [])) ++ drop (n + 1) t₀
set_next t₀ t p n a is long within =
    ap (λ (l : List ℕ). set l n a) (is ∙ ap (λ (l : List ℕ). p ++ l) (drop-cons t₀ n 0 within))
    ∙ set_at p _ _ a n long
    ∙ sym (append_snoc p a (drop (suc n) t₀))
    ∙ ap (λ (k : ℕ). (p ++ (a ∷ [])) ++ drop k t₀) (sym (add-one n))

length-hex : (b : List ℕ) → length (hex_of b) ≡ 2 * length b
length-hex [] = refl
length-hex (x ∷ b) = let ih = length-hex b in omega arith

hex-append : (b d : List ℕ) → hex_of (b ++ d) ≡ hex_of b ++ hex_of d
hex-append [] d = refl
hex-append (x ∷ b) d = ap (λ (l : List ℕ). digit_of (x / 16) ∷ digit_of (x % 16) ∷ l) (hex-append b d)

-- the first i bytes are put
abbrev pub HexSoFar : List ℕ → List ℕ → ℕ → List ℕ → Type 0
HexSoFar text₀ bytes i text = text ≡ hex_of (take i bytes) ++ drop (2 * i) text₀

module _ (text₀ bytes text : List ℕ) (i : ℕ) (is : HexSoFar text₀ bytes i text) where
  pub hex-one : (high low : ℕ) → high ≡ digit_of (get_or bytes i 0 / 16) → low ≡ digit_of (get_or bytes i 0 % 16)
      → 2 * length bytes ≤ length text₀ → i < length bytes → HexSoFar text₀ bytes (i + 1) (set (set text (2 * i) high) (2 * i + 1) low)
  hex-one high low high_is low-is room within =
      let p = hex_of (take i bytes) in
      let long : length p ≡ 2 * i = length-hex (take i bytes) ∙ omega (arith, length-take-le i bytes (omega arith)) in
      let longer : length (p ++ (high ∷ [])) ≡ 2 * i + 1 = length-append p (high ∷ []) ∙ omega arith in
      let both : hex_of (take (i + 1) bytes) ≡ p ++ (high ∷ low ∷ []) =
      ap (λ (k : ℕ). hex_of (take k bytes)) (add-one i)
      ∙ ap hex_of (take-suc bytes i 0 within)
      ∙ hex-append (take i bytes) (get_or bytes i 0 ∷ [])
      ∙ sym (λ j. p ++ (high_is j ∷ low-is j ∷ [])) in
      let next : 2 * i + 1 + 1 ≡ 2 * (i + 1) = omega arith in
      set_next text₀ _ (p ++ (high ∷ [])) (2 * i + 1) low (set_next text₀ text p (2 * i) high is long (omega arith)) longer (omega arith)
      ∙ ap₂ (λ (l : List ℕ) (k : ℕ). l ++ drop k text₀) (append_assoc p (high ∷ []) (low ∷ []) ∙ sym both) next

  pub hex-all : i ≡ length bytes → text ≡ hex_of bytes ++ drop (2 * length bytes) text₀
  hex-all all = is ∙ ap₂ (λ (l : List ℕ) (k : ℕ). hex_of l ++ drop (2 * k) text₀) (take_all i bytes (omega arith)) all
