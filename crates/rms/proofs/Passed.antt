-- The samples passed, as a part: one more behind others; eight more in four pairs; and the rows of eight that a list is cut into.
use Rattle.std.proofs.Common.{◌≡◌, ℕ, zero, suc, ◌+◌, ◌*◌, ◌^◌, ◌<◌, ◌≤◌, Bool, true, false, ◌||◌, List, [], ◌∷◌, ◌++◌, length, get_or, take, drop, ℤ, pos, sym, refl, ap, ◌∙◌, add-one, append-nil, append_assoc, arith, length-append, take-suc, take-append-drop, drop-drop}
use Rattle.std.specs.Simd.{first_chunks}
use mathlib.Core.Bool.{or-true, or-false, or_assoc}
use Rattle.reading.specs.Values.{square, squares}
use Rattle.reading.specs.Clipping.{clipped, any_clipped}
use Rattle.reading_laws.specs.RecordingsLaws.{squares-append, any_clipped-append}
use Rattle.rms.specs.declared.Pair.{Pair}
use Rattle.rms.specs.declared.Part.{Part}
use Rattle.rms.specs.declared.Squared.{Squared}
use Rattle.rms.specs.Gather.{squared_of, joined, part_of, pair_with}

-- one sample more, behind those at the front
pub part-next : (front xs : List ℤ) (i : ℕ) {p : Part} {o : Squared} → i < length xs → p ≡ part_of (front ++ take i xs) → o ≡ squared_of (get_or xs i (pos 0))
    → ◌≡◌ {A = Part} (record { count = p.count + 1; squares = p.squares + o.square; clipped = p.clipped || o.clipped }) (part_of (front ++ take (i + 1) xs))
part-next front xs i {p} {o} h p-is o-is =
    let x = get_or xs i (pos 0) in
    let before = front ++ take i xs in
    let more : front ++ take (i + 1) xs ≡ before ++ (x ∷ []) = rw (add-one, take-suc xs i (pos 0) h) (sym (append_assoc front (take i xs) (x ∷ []))) in
    let one : squares (x ∷ []) ≡ square x = omega arith in
    (λ j. record { count = (p-is j).count + 1; squares = (p-is j).squares + (o-is j).square; clipped = (p-is j).clipped || (o-is j).clipped })
    ∙ ((λ j. record {
      count = sym (length-append before (x ∷ [])) j;
      squares = sym (squares-append before (x ∷ []) ∙ ap (λ (n : ℕ). squares before + n) one) j;
      clipped = sym (any_clipped-append before (x ∷ []) ∙ ap (λ (b : Bool). any_clipped before || b) (or-false (clipped x))) j;
    })
    ∙ ap part_of (sym more))

-- the sum and the mark of four pairs
abbrev pub sum_of : Pair → Pair → Pair → Pair → ℕ
sum_of p q r s = s.squares + r.squares + q.squares + p.squares

abbrev marked : Pair → Bool
marked p = p.left || p.right

abbrev pub mark_of : Pair → Pair → Pair → Pair → Bool
mark_of p q r s = marked p || marked q || marked r || marked s

-- two marks that each take one more
both : (a b x y : Bool) → ((a || x) || (b || y)) ≡ ((a || b) || (x || y))
both true b x y = refl
both false true x y = or-true x
both false false x y = refl

four : (a b c d w x y z : Bool) → (a || w || (b || x) || (c || y) || (d || z)) ≡ ((a || b || c || d) || (w || x || y || z))
four a b c d w x y z =
    (λ j. both a b w x j || (c || y) || (d || z)) ∙ ((λ j. both (a || b) c (w || x) y j || (d || z)) ∙ both (a || b || c) d (w || x || y) z)

-- the rows passed, i of eight samples each, in four pairs
pub record Turned (rows : List (List ℤ)) (i : ℕ) (p q r s : Pair) : Type 0 where
  pub part_is : ◌≡◌ {A = Part} (record { count = 8 * i; squares = sum_of p q r s; clipped = mark_of p q r s }) (part_of (joined (take i rows)))
  pub first_le : p.squares ≤ i * 2 ^ 31
  pub second_le : q.squares ≤ i * 2 ^ 31
  pub third_le : r.squares ≤ i * 2 ^ 31
  pub fourth_le : s.squares ≤ i * 2 ^ 31

joined-next : (rows : List (List ℤ)) (i : ℕ) → i < length rows → joined (take (suc i) rows) ≡ joined (take i rows) ++ get_or rows i []
joined-next [] i h = absurd (omega arith)
joined-next (row ∷ rows) zero h = append-nil row
joined-next (row ∷ rows) (suc i) h =
    ap (λ (xs : List ℤ). row ++ xs) (joined-next rows i (omega arith)) ∙ sym (append_assoc row (joined (take i rows)) (get_or rows i []))

-- a row of eight
module _ (row : List ℤ) where
  abbrev at : ℕ → ℤ
  at k = get_or row k (pos 0)

  abbrev eight : List ℤ
  eight = at 0 ∷ at 1 ∷ at 2 ∷ at 3 ∷ at 4 ∷ at 5 ∷ at 6 ∷ at 7 ∷ []

eight-are : (row : List ℤ) → length row ≡ 8 → row ≡ eight row
eight-are [] l = absurd (omega arith)
eight-are (_ ∷ []) l = absurd (omega arith)
eight-are (_ ∷ _ ∷ []) l = absurd (omega arith)
eight-are (_ ∷ _ ∷ _ ∷ []) l = absurd (omega arith)
eight-are (_ ∷ _ ∷ _ ∷ _ ∷ []) l = absurd (omega arith)
eight-are (_ ∷ _ ∷ _ ∷ _ ∷ _ ∷ []) l = absurd (omega arith)
eight-are (_ ∷ _ ∷ _ ∷ _ ∷ _ ∷ _ ∷ []) l = absurd (omega arith)
eight-are (_ ∷ _ ∷ _ ∷ _ ∷ _ ∷ _ ∷ _ ∷ []) l = absurd (omega arith)
eight-are (_ ∷ _ ∷ _ ∷ _ ∷ _ ∷ _ ∷ _ ∷ _ ∷ []) l = refl
eight-are (_ ∷ _ ∷ _ ∷ _ ∷ _ ∷ _ ∷ _ ∷ _ ∷ _ ∷ _) l = absurd (omega arith)

-- one row more, two of its samples for each pair
module _ (rows : List (List ℤ)) (i : ℕ) (p q r s : Pair) (h : i < length rows) (long : length (get_or rows i []) ≡ 8) (turned : Turned rows i p q r s) where
  abbrev row : List ℤ
  row = get_or rows i []

  abbrev before : List ℤ
  before = joined (take i rows)

  abbrev taken : Pair → ℕ → Pair
  taken p k = pair_with p (at row k) (at row (k + 1))

  abbrev mark : ℕ → Bool
  mark k = clipped (at row k) || clipped (at row (k + 1))

  taken-mark : (p : Pair) (k : ℕ) → marked (taken p k) ≡ (marked p || mark k)
  taken-mark p k = both p.left p.right (clipped (at row k)) (clipped (at row (k + 1)))

  row-mark : any_clipped (eight row) ≡ (mark 0 || mark 2 || mark 4 || mark 6)
  row-mark = simp (or_assoc, or-false)

  mark-next : mark_of (taken p 0) (taken q 2) (taken r 4) (taken s 6) ≡ any_clipped (before ++ row)
  mark-next =
      (λ j. taken-mark p 0 j || taken-mark q 2 j || taken-mark r 4 j || taken-mark s 6 j)
      ∙ (four (marked p) (marked q) (marked r) (marked s) (mark 0) (mark 2) (mark 4) (mark 6)
      ∙ ((λ j. (turned.part_is j).clipped || (sym row-mark ∙ ap any_clipped (sym (eight-are row long))) j) ∙ sym (any_clipped-append before row)))

  sum-next : sum_of (taken p 0) (taken q 2) (taken r 4) (taken s 6) ≡ squares (before ++ row)
  sum-next =
      let sum : sum_of p q r s ≡ squares before = ap (λ (k : Part). k.squares) turned.part_is in
      let of-row : squares row ≡ squares (eight row) = ap squares (eight-are row long) in
      omega (arith, sum, of-row, squares-append before row)

  count-next : 8 * (i + 1) ≡ length (before ++ row)
  count-next = let count : 8 * i ≡ length before = ap (λ (k : Part). k.count) turned.part_is in omega (arith, count, length-append before row, long)

  pub turned-next : (p' q' r' s' : Pair) → p' ≡ taken p 0 → q' ≡ taken q 2 → r' ≡ taken r 4 → s' ≡ taken s 6 → p'.squares ≤ p.squares + 2 ^ 31 → q'.squares ≤ q.squares + 2 ^ 31
      → r'.squares ≤ r.squares + 2 ^ 31 → s'.squares ≤ s.squares + 2 ^ 31 → Turned rows (i + 1) p' q' r' s'
  turned-next p' q' r' s' p-is q-is r-is s-is p-le q-le r-le s-le =
      let more : joined (take (i + 1) rows) ≡ before ++ row = rw add-one (joined-next rows i h) in
      record {
        part_is =
            rw (p-is, q-is, r-is, s-is, more) (λ j. record { count = count-next j; squares = sum-next j; clipped = mark-next j });
        first_le = omega (arith, turned.first_le);
        second_le = omega (arith, turned.second_le);
        third_le = omega (arith, turned.third_le);
        fourth_le = omega (arith, turned.fourth_le);
      }

-- the first rows of a list, and what is behind them
pub joined-chunks : (n k : ℕ) (xs : List ℤ) → joined (first_chunks n k xs) ++ drop (k * n) xs ≡ xs
joined-chunks n zero xs = let none : zero * n ≡ 0 = omega arith in rw none
joined-chunks n (suc k) xs =
    let place : n + k * n ≡ suc k * n = omega arith in
    let rest : drop (suc k * n) xs ≡ drop (k * n) (drop n xs) = sym (drop-drop (k * n) n xs ∙ ap (λ (m : ℕ). drop m xs) place) in
    append_assoc (take n xs) (joined (first_chunks n k (drop n xs))) (drop (suc k * n) xs)
    ∙ (ap (λ (ys : List ℤ). take n xs ++ (joined (first_chunks n k (drop n xs)) ++ ys)) rest
    ∙ (ap (λ (ys : List ℤ). take n xs ++ ys) (joined-chunks n k (drop n xs)) ∙ take-append-drop n xs))
