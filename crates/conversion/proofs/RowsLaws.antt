-- The laws of the records in a list, over the width c of an edition's counts: the first one and those behind it, how many there are, and how long they are in
-- another edition; for a loop over them, one record more that is written; for a chain, that it goes over their numbers; and a conversion's ways out.
use Rattle.std.specs.Prelude.{◌≡◌, refl, Bool, true, false, ◌&&◌, List, [], ◌∷◌, ◌++◌, ℕ, zero, suc, ◌+◌, ◌-◌, ◌*◌, ◌/◌, ◌%◌, ◌≤◌, ◌<◌, length, take, drop}
use Rattle.std.proofs.Math.Path.{sym}
use Rattle.std.proofs.Common.{◌∙◌, ap, ap₂, append_assoc, add-one, le-div_iff_mul-le, div-lt_iff_lt-mul, add_comm, mul_comm, mul-zero, mul-suc, arith, length-append, length-drop, take-append-drop, take_at, drop_at, drop-drop, length-take-le, le-leb, eq-eqb, ne_eqb}
use mathlib.Core.Path.{subst}
use Rattle.std.proofs.Math.Nat.{div-eq-sub-div, div-eq_of_lt, add-sub_cancel_left}
use borrow.Rule.Slice.PartMut.{put_mid}
use Rattle.std.proofs.lemmas.Bool.{lt-leb}
use Rattle.std.specs.List.{list_all}
use Rattle.std.specs.Slice.Iter.{chunks_exact_rest, chunks_exact_size, chunks_exact_steps}
use Rattle.std.proofs.lemmas.Iterator.{YieldsList}
use Rattle.std.proofs.lemmas.Iterator.Splits.{YieldsList-from_shown_while}
use Rattle.octets.specs.Bytes.{row, numbers_in}
use Rattle.octets.specs.RowLaws.{length-row}
use Rattle.numbers.specs.Notation.{◌≤ᵇ◌, ◌≡ᵇ◌, refuse◌unless◌then◌}
use Rattle.reading.specs.Layout.{record_widths_with, record_length_with}
use Rattle.reading.specs.Engineer.{over}
use Rattle.conversion.specs.Conversion.{converted_to, converted_by, fits, first_rows, rows_in, rows_bytes, all_rows, good_row, records_as}
use Rattle.conversion.specs.Conversion.{records_converted}

-- a record is not empty
pub length-positive : (c : ℕ) → 0 < record_length_with c
length-positive c = omega arith

module _ (c : ℕ) (b : List ℕ) where
  -- the first record, and the list behind it
  abbrev pub first_row : List ℕ
  first_row = numbers_in (record_widths_with c) (take (record_length_with c) b)

  abbrev pub behind : List ℕ
  behind = drop (record_length_with c) b

  pub count_next : record_length_with c ≤ length b → length b / record_length_with c ≡ suc (length behind / record_length_with c)
  count_next h =
      div-eq-sub-div (length-positive c) h
      ∙ (add-one _ ∙ ap (λ (n : ℕ). suc (n / record_length_with c)) (sym (length-drop (record_length_with c) b)))

  pub rows_next : record_length_with c ≤ length b → rows_in c b ≡ first_row ∷ rows_in c behind
  rows_next h = ap (λ (n : ℕ). first_rows c n b) (count_next h)

  pub rows_none : length b < record_length_with c → rows_in c b ≡ []
  rows_none h = ap (λ (n : ℕ). first_rows c n b) (div-eq_of_lt h)

-- how many there are, and how long they are in another edition
length-first_rows : (c n : ℕ) (b : List ℕ) → length (first_rows c n b) ≡ n
length-first_rows c zero b = refl
length-first_rows c (suc n) b = ap suc (length-first_rows c n (behind c b))

pub length-rows_in : (c : ℕ) (b : List ℕ) → length (rows_in c b) ≡ length b / record_length_with c
length-rows_in c b = length-first_rows c (length b / record_length_with c) b

length-first_bytes : (from to n : ℕ) (b : List ℕ) → length (rows_bytes to (first_rows from n b)) ≡ record_length_with to * n
length-first_bytes from to zero b = sym (mul-zero (record_length_with to))
length-first_bytes from to (suc n) b =
    let first = row (record_widths_with to) (first_row from b) in
    let long = length-row (record_widths_with to) (first_row from b) refl in
    length-append first (rows_bytes to (first_rows from n (behind from b)))
    ∙ (ap₂ ◌+◌ long (length-first_bytes from to n (behind from b))
    ∙ (add_comm (record_length_with to) (record_length_with to * n) ∙ sym (mul-suc (record_length_with to) n)))

pub length-records_as : (from to : ℕ) (b : List ℕ) → length (records_as from to b) ≡ record_length_with to * (length b / record_length_with from)
length-records_as from to b = length-first_bytes from to (length b / record_length_with from) b

-- y in the place of m bytes of p from w on, as a lent part comes back
abbrev pub written : ℕ → ℕ → List ℕ → List ℕ → List ℕ
written w m p y = put_mid w (w + m - w) p y

-- to write y, and then the rest behind it, is to write both at once
module _ (w m : ℕ) (p y rest : List ℕ) (within : w ≤ length p) (long : length y ≡ m) where
  pub write-next : take (w + m) (written w m p y) ++ over rest (drop (w + m) (written w m p y)) ≡ take w p ++ over (y ++ rest) (drop w p)
  write-next =
      let front = take w p ++ y in
      let behind-y = drop m (drop w p) in
      let front_long : length front ≡ w + m = length-append (take w p) y ∙ ap₂ ◌+◌ (length-take-le w p within) long in
      let is : written w m p y ≡ front ++ behind-y =
      ap (λ (k : ℕ). take w p ++ (y ++ drop k (drop w p))) (add-sub_cancel_left w m) ∙ sym (append_assoc (take w p) y behind-y) in
      let further : drop (length rest) behind-y ≡ drop (length (y ++ rest)) (drop w p) =
      drop-drop (length rest) m (drop w p) ∙ ap (λ (k : ℕ). drop k (drop w p)) (sym (length-append y rest ∙ ap (λ (k : ℕ). k + length rest) long)) in
      (λ i. take (w + m) (is i) ++ over rest (drop (w + m) (is i)))
      ∙ ((λ i. take_at front behind-y (w + m) front_long i ++ over rest (drop_at front behind-y (w + m) front_long i))
      ∙ ((λ i. front ++ (rest ++ further i)) ∙ simp append_assoc))

-- a list whose first record is x
module _ (c : ℕ) (b x after : List ℕ) (are : b ≡ x ++ after) (long : length x ≡ record_length_with c) where
  pub rows_cut : rows_in c b ≡ numbers_in (record_widths_with c) x ∷ rows_in c after
  rows_cut =
      ap (rows_in c) are
      ∙ (rows_next c (x ++ after) (omega (arith, length-append x after))
      ∙ (λ i. numbers_in (record_widths_with c) (take_at x after (record_length_with c) long i) ∷ rows_in c (drop_at x after (record_length_with c) long i)))

  -- the list in another edition
  module _ (to : ℕ) where
    abbrev pub first_bytes : List ℕ
    first_bytes = row (record_widths_with to) (numbers_in (record_widths_with c) x)

    length-first : length first_bytes ≡ record_length_with to
    length-first = length-row (record_widths_with to) (numbers_in (record_widths_with c) x) refl

    bytes_cut : records_as c to b ≡ first_bytes ++ records_as c to after
    bytes_cut = ap (rows_bytes to) rows_cut

    pub length_cut : length (records_as c to b) ≡ record_length_with to + length (records_as c to after)
    length_cut = ap length bytes_cut ∙ (length-append first_bytes (records_as c to after) ∙ ap (λ (k : ℕ). k + length (records_as c to after)) length-first)

    -- what stands in p before w, with the list written behind it, is t: the first record is written, m bytes long
    pub one-put : (m w : ℕ) (p t y : List ℕ) → m ≡ record_length_with to → take w p ++ over (records_as c to b) (drop w p) ≡ t → w ≤ length p → y ≡ first_bytes
        → take (w + m) (written w m p y) ++ over (records_as c to after) (drop (w + m) (written w m p y)) ≡ t
    one-put m w p t y m-is so_far within is =
        let rest = records_as c to after in
        write-next w m p y rest within (ap length is ∙ (length-first ∙ sym m-is))
        ∙ ((λ i. take w p ++ over (is i ++ rest) (drop w p)) ∙ (ap (λ (r : List ℕ). take w p ++ over r (drop w p)) (sym bytes_cut) ∙ so_far))

-- and where no record is left, all is written
pub all-put : (c to : ℕ) (b : List ℕ) (w : ℕ) (p t : List ℕ) → length b < record_length_with c → take w p ++ over (records_as c to b) (drop w p) ≡ t → p ≡ t
all-put c to b w p t short so_far =
    sym (take-append-drop w p)
    ∙ (ap (λ (l : List (List ℕ)). take w p ++ over (rows_bytes to l) (drop w p)) (sym (rows_none c b short)) ∙ so_far)

-- the chunks of a list are its records, and a chain tests the numbers of each
pub rows-yielded : (c : ℕ) {s : _} (b : List ℕ) → chunks_exact_rest s ≡ b → chunks_exact_size s ≡ record_length_with c
    → YieldsList chunks_exact_steps (λ x. numbers_in (record_widths_with c) x.now) s (rows_in c b)
rows-yielded c {s} b rest size =
    subst (λ (l : List ℕ). YieldsList chunks_exact_steps (λ x. numbers_in (record_widths_with c) x.now) s (rows_in c l)) rest
    (YieldsList-from_shown_while
    chunks_exact_steps
    (λ x. numbers_in (record_widths_with c) x.now)
    (λ t. rows_in c (chunks_exact_rest t))
    (λ t. chunks_exact_size t ≡ record_length_with c)
    (λ t u sized h. ap length (rows_none c (chunks_exact_rest t) (omega (arith, h.1.0))))
    (λ t x u sized h. (h.0 ∙ sized, rows_cut c (chunks_exact_rest t) x.now (chunks_exact_rest u) h.1.0 (h.1.1 ∙ sized)))
    s
    size)

pub all-listed : (test : List ℕ → Bool) (rows : List (List ℕ)) → list_all test rows ≡ all_rows test rows
all-listed test [] = refl
all-listed test (ns ∷ rest) = ap (λ (b : Bool). test ns && b) (all-listed test rest)

-- the ways out of a conversion by its tests, in their order; n and m are the lengths of a record in the two editions
module _ (from to n m : ℕ) (b lent : List ℕ) (n-is : n ≡ record_length_with from) (m-is : m ≡ record_length_with to) where
  abbrev whole : Bool
  whole = length b % record_length_with from ≡ᵇ 0

  abbrev good : Bool
  good = all_rows good_row (rows_in from b)

  abbrev fit : Bool
  fit = all_rows (fits (record_widths_with to)) (rows_in from b)

  abbrev room : Bool
  room = length (records_as from to b) ≤ᵇ length lent

  pub has_room : length b / n ≤ length lent / m → length (records_as from to b) ≤ length lent
  has_room h =
      let k : length b / record_length_with from ≤ length lent / record_length_with to = rw (n-is, m-is) at h in
      rw (length-records_as from to b, mul_comm (record_length_with to) (length b / record_length_with from)) ((le-div_iff_mul-le (length-positive to)).0 k)

  lacks-room : length lent / m < length b / n → length lent < length (records_as from to b)
  lacks-room h =
      let k : length lent / record_length_with to < length b / record_length_with from = rw (n-is, m-is) at h in
      rw (length-records_as from to b, mul_comm (record_length_with to) (length b / record_length_with from)) ((div-lt_iff_lt-mul (length-positive to)).0 k)

  by_tests : (w g f r : Bool) → whole ≡ w → good ≡ g → fit ≡ f → room ≡ r
      → converted_by
      (refuse 19 unless w then refuse 19 unless g then refuse 18 unless f then refuse 7 unless r then 0)
      (records_as from to b)
      lent ≡ records_converted from to b lent
  unfolding records_converted
  by_tests w g f r w-is g-is f-is r-is = λ i.
      converted_by
      (refuse 19 unless sym w-is i then refuse 19 unless sym g-is i then refuse 18 unless sym f-is i then refuse 7 unless sym r-is i then 0)
      (records_as from to b)
      lent

  pub not-whole : (length b % n ≡ 0 → ⊥) → converted_to 19 lent ≡ records_converted from to b lent
  not-whole h = by_tests false good fit room (ne_eqb (length b % record_length_with from) 0 (rw n-is at h)) refl refl refl

  module _ (h : length b % n ≡ 0) where
    is_whole : whole ≡ true
    is_whole = eq-eqb (length b % record_length_with from) 0 (rw n-is at h)

    pub not_good : good ≡ false → converted_to 19 lent ≡ records_converted from to b lent
    not_good g = by_tests true false fit room is_whole g refl refl

    module _ (g : good ≡ true) where
      pub not-fit : fit ≡ false → converted_to 18 lent ≡ records_converted from to b lent
      not-fit f = by_tests true true false room is_whole g f refl

      module _ (f : fit ≡ true) where
        pub no_room : length lent / m < length b / n → converted_to 7 lent ≡ records_converted from to b lent
        no_room r = by_tests true true true false is_whole g f (lt-leb (length (records_as from to b)) (length lent) (lacks-room r))

        pub all-converted : length b / n ≤ length lent / m → converted_to 0 (over (records_as from to b) lent) ≡ records_converted from to b lent
        all-converted r = by_tests true true true true is_whole g f (le-leb (length (records_as from to b)) (length lent) (has_room r))
