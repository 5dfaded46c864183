-- The laws of the records of a list from a place on, as a loop that counts the place meets them: the one at it, those behind it, and what testing and writing them
-- comes to. The loops in code go by chunks (`RowsLaws`).
use Rattle.std.specs.Prelude.{◌≡◌, refl, Bool, true, ◌&&◌, List, [], ◌∷◌, ◌++◌, ℕ, ◌+◌, ◌-◌, ◌≤◌, ◌<◌, length, take, drop}
use Rattle.std.proofs.Math.Path.{sym}
use Rattle.std.proofs.Common.{◌∙◌, ap, ap₂, arith, length-append, length-take, length-drop, take-append-drop, drop-drop}
use Rattle.std.proofs.Math.Bool.{and_assoc, and-true}
use Rattle.std.proofs.Math.Nat.{add-sub_cancel_left}
use Rattle.octets.specs.Bytes.{row, numbers_in, total, Narrow}
use Rattle.octets.specs.RowLaws.{length-row}
use Rattle.reading.specs.Layout.{record_widths_with, record_length_with}
use Rattle.reading.specs.Engineer.{over}
use Rattle.conversion.specs.Conversion.{rows_in, rows_bytes, all_rows, records_as}
use Rattle.conversion.specs.WidthsLaws.{narrow-record}
use Rattle.conversion.proofs.RowsLaws.{first_row, behind, rows_next, rows_none, written, write-next}

-- the record at a place of a list, as code cuts it, and those behind it
module _ (c n at : ℕ) (b : List ℕ) (n-is : n ≡ record_length_with c) where
  abbrev pub cut : List ℕ
  cut = take (at + n - at) (drop at b)

  cut-is : cut ≡ take (record_length_with c) (drop at b)
  cut-is = ap (λ (k : ℕ). take k (drop at b)) (add-sub_cancel_left at n ∙ n-is)

  -- what reading it requires, and gives
  module _ (ws : List ℕ) (ws-are : ws ≡ record_widths_with c) where
    pub row-asked : c ≤ 8 → n ≤ length b - at → (7 ≡ length ws) × (length cut ≡ total ws) × Narrow ws
    row-asked narrow h =
        rw ws-are (refl, simp (length-take, length-drop) (omega arith), narrow-record c narrow)

    pub row_read : (ns : List ℕ) → ns ≡ numbers_in ws cut → ns ≡ first_row c (drop at b)
    row_read ns is = is ∙ ap₂ numbers_in ws-are cut-is

  behind-is : behind c (drop at b) ≡ drop (at + n) b
  behind-is = drop-drop (record_length_with c) at b ∙ ap (λ (k : ℕ). drop (at + k) b) (sym n-is)

  rows_at : n ≤ length b - at → rows_in c (drop at b) ≡ first_row c (drop at b) ∷ rows_in c (drop (at + n) b)
  rows_at h = rows_next c (drop at b) (simp length-drop (omega arith)) ∙ ap (λ (l : List ℕ). first_row c (drop at b) ∷ rows_in c l) behind-is

  rows_end : length b - at < n → rows_in c (drop at b) ≡ []
  rows_end h = rows_none c (drop at b) (simp length-drop (omega arith))

  -- a flag of the records before a place, with the test of those from it on, is the test of all
  module _ (test : List ℕ → Bool) (flag : Bool) (so_far : (flag && all_rows test (rows_in c (drop at b))) ≡ all_rows test (rows_in c b)) where
    pub all_more : n ≤ length b - at → (passed : Bool) → passed ≡ test (first_row c (drop at b))
        → (flag && passed && all_rows test (rows_in c (drop (at + n) b))) ≡ all_rows test (rows_in c b)
    all_more h passed is =
        let rest = all_rows test (rows_in c (drop (at + n) b)) in
        and_assoc flag passed rest
        ∙ (ap (λ (p : Bool). flag && (p && rest)) is ∙ (ap (λ (l : List (List ℕ)). flag && all_rows test l) (sym (rows_at h)) ∙ so_far))

    pub all_tested : length b - at < n → flag ≡ all_rows test (rows_in c b)
    all_tested h = sym (and-true flag) ∙ (ap (λ (l : List (List ℕ)). flag && all_rows test l) (sym (rows_end h)) ∙ so_far)

  -- the records from a place on in another edition, m bytes for the first
  module _ (to m : ℕ) (m-is : m ≡ record_length_with to) where
    abbrev pub first_bytes : List ℕ
    first_bytes = row (record_widths_with to) (first_row c (drop at b))

    length-first : length first_bytes ≡ m
    length-first = length-row (record_widths_with to) (first_row c (drop at b)) refl ∙ sym m-is

    bytes-at : n ≤ length b - at → records_as c to (drop at b) ≡ first_bytes ++ records_as c to (drop (at + n) b)
    bytes-at h = ap (rows_bytes to) (rows_at h)

    pub length_at : n ≤ length b - at → length (records_as c to (drop at b)) ≡ m + length (records_as c to (drop (at + n) b))
    length_at h =
        let rest = records_as c to (drop (at + n) b) in
        ap length (bytes-at h) ∙ (length-append first_bytes rest ∙ ap (λ (k : ℕ). k + length rest) length-first)

    -- what stands in p before w, with those records written behind it, is t
    module _ (w : ℕ) (p t : List ℕ) (so_far : take w p ++ over (records_as c to (drop at b)) (drop w p) ≡ t) where
      pub one-put : n ≤ length b - at → w ≤ length p → (y : List ℕ) → y ≡ first_bytes
          → take (w + m) (written w m p y) ++ over (records_as c to (drop (at + n) b)) (drop (w + m) (written w m p y)) ≡ t
      one-put h within y is =
          let rest = records_as c to (drop (at + n) b) in
          write-next w m p y rest within (ap length is ∙ length-first)
          ∙ ((λ i. take w p ++ over (is i ++ rest) (drop w p)) ∙ (ap (λ (r : List ℕ). take w p ++ over r (drop w p)) (sym (bytes-at h)) ∙ so_far))

      pub all-put : length b - at < n → p ≡ t
      all-put h =
          sym (take-append-drop w p)
          ∙ (ap (λ (l : List (List ℕ)). take w p ++ over (rows_bytes to l) (drop w p)) (sym (rows_end h)) ∙ so_far)
