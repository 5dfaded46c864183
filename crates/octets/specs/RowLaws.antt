-- The laws of rows, over the widths: numbers to bytes and back, both ways; and how a row goes on.
use Rattle.std.specs.Prelude.{◌≡◌, refl, List, [], ◌∷◌, ◌++◌, ℕ, suc, ◌^◌, ◌<◌, ◌+◌, ◌*◌, length, take, drop, get_or}
use Rattle.std.proofs.Common.{sym, ◌∙◌, ap, ap₂, append_assoc, arith, mod-eq_of_lt, length-append, length-take, length-drop, take-append-drop, take_at, drop_at, drop-drop, length-take-le}
use Rattle.octets.specs.Bytes.{Bytes, bytes_of, number_of, row, numbers_in, total, fours, ones}
use Rattle.octets.specs.BytesLaws.{bytes_take, bytes_drop, length-bytes_of, number_of-bytes_of, bytes_of-number_of, number_of-lt}

-- numbers that a row of given widths holds: as many, and each below 256 to the power of its width
abbrev pub Fit : List ℕ → List ℕ → Type 0
Fit [] [] = Unit {0}
Fit [] (n ∷ ns) = ⊥
Fit (w ∷ ws) [] = ⊥
Fit (w ∷ ws) (n ∷ ns) = (n < 256 ^ w) × Fit ws ns

pub length-row : (ws ns : List ℕ) → length ns ≡ length ws → length (row ws ns) ≡ total ws
length-row [] ns e = refl
length-row (w ∷ ws) [] e = absurd (omega arith)
length-row (w ∷ ws) (n ∷ ns) e = length-append (bytes_of w n) (row ws ns) ∙ ap₂ ◌+◌ (length-bytes_of w n) (length-row ws ns (omega arith))

pub length-numbers_in : (ws b : List ℕ) → length (numbers_in ws b) ≡ length ws
length-numbers_in [] b = refl
length-numbers_in (w ∷ ws) b = ap suc (length-numbers_in ws (drop w b))

-- numbers → bytes → numbers
pub numbers_in-row : (ws ns : List ℕ) → Fit ws ns → numbers_in ws (row ws ns) ≡ ns
numbers_in-row [] [] h = refl
numbers_in-row [] (n ∷ ns) h = absurd h
numbers_in-row (w ∷ ws) [] h = absurd h
numbers_in-row (w ∷ ws) (n ∷ ns) h =
    let long = length-bytes_of w n in
    ap₂ ◌∷◌
    (ap number_of (take_at (bytes_of w n) (row ws ns) w long) ∙ number_of-bytes_of w n h.0)
    (ap (numbers_in ws) (drop_at (bytes_of w n) (row ws ns) w long) ∙ numbers_in-row ws ns h.1)

-- bytes → numbers → bytes
pub row-numbers_in : (ws b : List ℕ) → Bytes b → length b ≡ total ws → row ws (numbers_in ws b) ≡ b
row-numbers_in [] [] are e = refl
row-numbers_in [] (x ∷ b) are e = absurd (omega arith)
row-numbers_in (w ∷ ws) b are e =
    let front : length (take w b) ≡ w = length-take-le w b (omega arith) in
    let first : bytes_of w (number_of (take w b)) ≡ take w b =
    ap (λ (k : ℕ). bytes_of k (number_of (take w b))) (sym front) ∙ bytes_of-number_of (take w b) (bytes_take w b are) in
    ap₂ ◌++◌ first (row-numbers_in ws (drop w b) (bytes_drop w b are) (simp length-drop (omega arith))) ∙ take-append-drop w b

pub numbers_in-fit : (ws b : List ℕ) → Bytes b → Fit ws (numbers_in ws b)
numbers_in-fit [] b are = tt
numbers_in-fit (w ∷ ws) b are = (number_of-lt w (take w b) (bytes_take w b are) (simp length-take (omega arith)), numbers_in-fit ws (drop w b) (bytes_drop w b are))

-- numbers of 4 bytes each
pub fits-fours : (ns : List ℕ) → ((i : ℕ) → get_or ns i 0 < 256 ^ 4) → Fit (fours ns) ns
fits-fours [] h = tt
fits-fours (n ∷ ns) h = (h 0, fits-fours ns (λ i. h (suc i)))

-- two rows, one behind the other
pub row-append : (ws vs ns ms : List ℕ) → length ns ≡ length ws → row (ws ++ vs) (ns ++ ms) ≡ row ws ns ++ row vs ms
row-append [] vs [] ms e = refl
row-append [] vs (n ∷ ns) ms e = absurd (omega arith)
row-append (w ∷ ws) vs [] ms e = absurd (omega arith)
row-append (w ∷ ws) vs (n ∷ ns) ms e =
    ap (λ (r : List ℕ). bytes_of w n ++ r) (row-append ws vs ns ms (omega arith)) ∙ sym (append_assoc (bytes_of w n) (row ws ns) (row vs ms))

pub numbers_in-append : (ws vs b : List ℕ) → numbers_in (ws ++ vs) b ≡ numbers_in ws b ++ numbers_in vs (drop (total ws) b)
numbers_in-append [] vs b = refl
numbers_in-append (w ∷ ws) vs b =
    ap (λ (r : List ℕ). number_of (take w b) ∷ r)
    (numbers_in-append ws vs (drop w b)
    ∙ ap (λ (l : List ℕ). numbers_in ws (drop w b) ++ numbers_in vs l) (drop-drop (total ws) w b))

pub fit_append : (ws vs ns ms : List ℕ) → Fit ws ns → Fit vs ms → Fit (ws ++ vs) (ns ++ ms)
fit_append [] vs [] ms f g = g
fit_append [] vs (n ∷ ns) ms f g = absurd f
fit_append (w ∷ ws) vs [] ms f g = absurd f
fit_append (w ∷ ws) vs (n ∷ ns) ms f g = (f.0, fit_append ws vs ns ms f.1 g)

-- numbers of one byte each are the bytes themselves
pub row-ones : (ns : List ℕ) → Bytes ns → row (ones ns) ns ≡ ns
row-ones [] are = refl
row-ones (n ∷ ns) are = ap₂ ◌∷◌ (mod-eq_of_lt are.0) (row-ones ns are.1)

pub numbers_in-ones : (b : List ℕ) → numbers_in (ones b) b ≡ b
numbers_in-ones [] = refl
numbers_in-ones (x ∷ b) = let e : x + 256 * 0 ≡ x = omega arith in ap₂ ◌∷◌ e (numbers_in-ones b)

pub fits_ones : (ns : List ℕ) → Bytes ns → Fit (ones ns) ns
fits_ones [] are = tt
fits_ones (n ∷ ns) are = (omega (arith, are.0), fits_ones ns are.1)
