-- The laws of records in another edition, over the widths of the two editions' counts: they have the same numbers, and converted back they are the bytes they
-- were; a wider edition holds all of a narrower one's; and records written in one edition, converted, are those records written in the other.
use Rattle.std.specs.Prelude.{◌≡◌, refl, true, List, [], ◌∷◌, ◌++◌, map, ℕ, zero, suc, ◌+◌, ◌-◌, ◌*◌, ◌/◌, ◌%◌, ◌≤◌, ◌<◌, length, take, drop}
use Rattle.std.proofs.Common.{sym, ◌∙◌, ap, ap₂, le_trans, mul-suc, div-mul-le_self, le-div_iff_mul-le, mul_comm, arith, length-append, length-drop, take-append-drop, take_at, drop_at, length-take-le, eqb-true}
use Rattle.std.proofs.Math.Nat.{mul-mod_right, div-add-mod}
use Rattle.octets.specs.Bytes.{Bytes, row, numbers_in}
use Rattle.octets.specs.BytesLaws.{bytes_take, bytes_drop}
use Rattle.octets.specs.RowLaws.{Fit, length-row, numbers_in-row, row-numbers_in, numbers_in-fit}
use Rattle.numbers.specs.Notation.{◌≡ᵇ◌, refuse◌unless◌then◌}
use Rattle.numbers.specs.NotationLaws.{and-true, and_left, and_right, refuse-none}
use Rattle.reading.specs.declared.Record.{Record}
use Rattle.reading.specs.Layout.{record_widths_with, record_length_with}
use Rattle.reading.specs.Records.{record_numbers, record_bytes_with}
use Rattle.reading.specs.Engineer.{over}
use Rattle.records.specs.ListLaws.{RecordsFitWith}
use Rattle.conversion.specs.Conversion.{converted_to, room_refusal, fits, first_rows, rows_in, rows_bytes, all_rows, good_row, records_as}
use Rattle.conversion.specs.Conversion.{records_refusal, records_converted}
use Rattle.conversion.specs.WidthsLaws.{fit_length, fit-by-test, fit-passes, wider-record, fit-wider}
use Rattle.conversion.proofs.RowsLaws.{length-positive, first_row, behind, rows_next, rows_none, length-rows_in, length-records_as, all-converted}

-- rows that the records of an edition hold
abbrev pub RowsFit : ℕ → List (List ℕ) → Type 0
RowsFit c [] = Unit {0}
RowsFit c (ns ∷ rest) = Fit (record_widths_with c) ns × RowsFit c rest

-- rows that pass the test fit, and rows that fit pass
rows-by-test : (from to n : ℕ) (b : List ℕ) → all_rows (fits (record_widths_with to)) (first_rows from n b) ≡ true → RowsFit to (first_rows from n b)
rows-by-test from to zero b h = tt
rows-by-test from to (suc n) b h =
    let ws = record_widths_with to in
    let rest = first_rows from n (behind from b) in (
      fit-by-test ws (first_row from b) refl (and_left (fits ws (first_row from b)) (all_rows (fits ws) rest) h),
      rows-by-test from to n (behind from b) (and_right (fits ws (first_row from b)) (all_rows (fits ws) rest) h),
    )

rows_pass : (c : ℕ) (rows : List (List ℕ)) → RowsFit c rows → all_rows (fits (record_widths_with c)) rows ≡ true
rows_pass c [] h = refl
rows_pass c (ns ∷ rest) h = and-true (fit-passes (record_widths_with c) ns h.0) (rows_pass c rest h.1)

-- the rows of bytes fit their own edition
rows-own : (c n : ℕ) (b : List ℕ) → Bytes b → RowsFit c (first_rows c n b)
rows-own c zero b are = tt
rows-own c (suc n) b are = (
  numbers_in-fit (record_widths_with c) (take (record_length_with c) b) (bytes_take (record_length_with c) b are),
  rows-own c n (behind c b) (bytes_drop (record_length_with c) b are),
)

-- and rows that fit an edition fit a wider one
rows-wider : (from to : ℕ) (rows : List (List ℕ)) → from ≤ to → RowsFit from rows → RowsFit to rows
rows-wider from to [] h f = tt
rows-wider from to (ns ∷ rest) h f =
    (fit-wider (record_widths_with from) (record_widths_with to) ns (wider-record from to h) f.0, rows-wider from to rest h f.1)

-- so the way to a wider edition never lacks width
pub forth-fits : (from to : ℕ) (b : List ℕ) → Bytes b → from ≤ to → all_rows (fits (record_widths_with to)) (rows_in from b) ≡ true
forth-fits from to b are h =
    let rows = rows_in from b in
    rows_pass to rows (rows-wider from to rows h (rows-own from (length b / record_length_with from) b are))

-- rows → bytes → rows
pub rows_back : (c : ℕ) (rows : List (List ℕ)) → RowsFit c rows → rows_in c (rows_bytes c rows) ≡ rows
rows_back c [] h = rows_none c [] (length-positive c)
rows_back c (ns ∷ rest) h =
    let ws = record_widths_with c in
    let first = row ws ns in
    let more = rows_bytes c rest in
    let long : length first ≡ record_length_with c = length-row ws ns (fit_length ws ns h.0) in
    let within : record_length_with c ≤ length (first ++ more) = rw (length-append first more, long) (omega arith) in
    rows_next c (first ++ more) within
    ∙ ap₂ ◌∷◌
    (ap (numbers_in ws) (take_at first more (record_length_with c) long) ∙ numbers_in-row ws ns h.0)
    (ap (rows_in c) (drop_at first more (record_length_with c) long) ∙ rows_back c rest h.1)

-- n and one more of a length k: one is within, and n are behind it
one-of-many : (k n l : ℕ) → l ≡ k * suc n → (k ≤ l) × (l - k ≡ k * n)
one-of-many k n l e = let f : l ≡ k * n + k = e ∙ mul-suc k n in (omega arith, omega arith)

-- bytes → rows → bytes, of whole records
bytes-first : (c n : ℕ) (b : List ℕ) → Bytes b → length b ≡ record_length_with c * n → rows_bytes c (first_rows c n b) ≡ b
bytes-first c zero [] are e = refl
bytes-first c zero (x ∷ b) are e = absurd (omega arith)
bytes-first c (suc n) b are e =
    let k = record_length_with c in
    let parts = one-of-many k n (length b) e in
    ap₂ ◌++◌
    (row-numbers_in (record_widths_with c) (take k b) (bytes_take k b are) (length-take-le k b parts.0))
    (bytes-first c n (drop k b) (bytes_drop k b are) (length-drop k b ∙ parts.1))
    ∙ take-append-drop k b

pub bytes_back : (c : ℕ) (b : List ℕ) → Bytes b → length b % record_length_with c ≡ 0 → records_as c c b ≡ b
bytes_back c b are h =
    let k = record_length_with c in
    let e : length b ≡ k * (length b / k) = omega (arith, div-add-mod (length b) k) in
    bytes-first c (length b / k) b are e

-- a list that converts: it is whole records, each a good one, and the other edition holds them
module _ (from to : ℕ) (b lent : List ℕ) (none : records_refusal from to b lent ≡ 0) where
  passed : (length b % record_length_with from ≡ 0) × (all_rows good_row (rows_in from b) ≡ true) × RowsFit to (rows_in from b)
  passed =
      let whole = length b % record_length_with from ≡ᵇ 0 in
      let good = all_rows good_row (rows_in from b) in
      let fit = all_rows (fits (record_widths_with to)) (rows_in from b) in
      let room = room_refusal (length (records_as from to b)) lent in
      let a = refuse-none 19 whole (refuse 19 unless good then refuse 18 unless fit then room) (omega arith) none in
      let g = refuse-none 19 good (refuse 18 unless fit then room) (omega arith) a.1 in
      let f = refuse-none 18 fit room (omega arith) g.1 in
      (eqb-true (length b % record_length_with from) 0 a.0, g.0, rows-by-test from to (length b / record_length_with from) b f.0)

  -- converted, its numbers are the same
  same_rows : rows_in to (records_as from to b) ≡ rows_in from b
  same_rows = rows_back to (rows_in from b) passed.2

-- and so converted back it is the bytes that it was
pub records-again : (from to : ℕ) (b lent : List ℕ) → Bytes b → records_refusal from to b lent ≡ 0 → records_as to from (records_as from to b) ≡ b
records-again from to b lent are none = ap (rows_bytes from) (same_rows from to b lent none) ∙ bytes_back from b are (passed from to b lent none).0

-- at least as many bytes, at least as many records
div-le-div : (k m n : ℕ) → 0 < k → m ≤ n → m / k ≤ n / k
div-le-div k m n h l = (le-div_iff_mul-le h).1 (le_trans (div-mul-le_self m k) l)

-- the converter itself takes them back, into any output that is long enough
pub records-there-and-back : (from to : ℕ) (b lent out : List ℕ) → Bytes b → records_refusal from to b lent ≡ 0 → length b ≤ length out
    → records_converted to from (records_as from to b) out ≡ converted_to 0 (over b out)
records-there-and-back from to b lent out are none room =
    let there = records_as from to b in
    let n = record_length_with from in
    let m = record_length_with to in
    let same = same_rows from to b lent none in
    let whole : length there % m ≡ 0 = ap (λ (l : ℕ). l % m) (length-records_as from to b) ∙ mul-mod_right m (length b / n) in
    let good = ap (all_rows good_row) same ∙ (passed from to b lent none).1 in
    let fit = ap (all_rows (fits (record_widths_with from))) same ∙ rows_pass from (rows_in from b) (rows-own from (length b / n) b are) in
    let count : length there / m ≡ length b / n = sym (length-rows_in to there) ∙ (ap length same ∙ length-rows_in from b) in
    let enough : length there / m ≤ length out / n = rw count (div-le-div n (length b) (length out) (length-positive from) room) in
    sym (all-converted to from m n there out refl refl whole good fit enough)
    ∙ ap (λ (l : List ℕ). converted_to 0 (over l out)) (records-again from to b lent are none)

-- the rows of records that fit an edition fit it, too, and those rows' bytes are theirs
rows_of : (c : ℕ) (rs : List Record) → RecordsFitWith c rs → RowsFit c (map record_numbers rs)
rows_of c [] fit = tt
rows_of c (r ∷ rs) fit = (fit.0, rows_of c rs fit.1)

bytes_of : (c : ℕ) (rs : List Record) → record_bytes_with c rs ≡ rows_bytes c (map record_numbers rs)
bytes_of c [] = refl
bytes_of c (r ∷ rs) = ap (λ (l : List ℕ). row (record_widths_with c) (record_numbers r) ++ l) (bytes_of c rs)

-- converted, they are the same records in the other edition
records-as : (from to : ℕ) (rs : List Record) → RecordsFitWith from rs → records_as from to (record_bytes_with from rs) ≡ record_bytes_with to rs
records-as from to rs fit =
    ap (records_as from to) (bytes_of from rs) ∙ (ap (rows_bytes to) (rows_back from (map record_numbers rs) (rows_of from rs fit)) ∙ sym (bytes_of to rs))

-- and good records that fit both editions are accepted
pub records-accepted : (from to : ℕ) (rs : List Record) (lent : List ℕ) → all_rows good_row (map record_numbers rs) ≡ true → RecordsFitWith from rs
    → RecordsFitWith to rs → length (record_bytes_with to rs) ≤ length lent
    → records_converted from to (record_bytes_with from rs) lent ≡ converted_to 0 (over (record_bytes_with to rs) lent)
records-accepted from to rs lent good fit fit-to room =
    let b = record_bytes_with from rs in
    let n = record_length_with from in
    let m = record_length_with to in
    let rows = map record_numbers rs in
    let are : rows_in from b ≡ rows = ap (rows_in from) (bytes_of from rs) ∙ rows_back from rows (rows_of from rs fit) in
    let itself : records_as from from b ≡ b = ap (rows_bytes from) are ∙ sym (bytes_of from rs) in
    let long : length b ≡ n * (length b / n) = sym (ap length itself) ∙ length-records_as from from b in
    let whole : length b % n ≡ 0 = ap (λ (l : ℕ). l % n) long ∙ mul-mod_right n (length b / n) in
    let goods = ap (all_rows good_row) are ∙ good in
    let fits-to = ap (all_rows (fits (record_widths_with to))) are ∙ rows_pass to rows (rows_of to rs fit-to) in
    let out : length (records_as from to b) ≡ m * (length b / n) = length-records_as from to b in
    let within : m * (length b / n) ≤ length lent = rw (sym out ∙ ap length (records-as from to rs fit)) room in
    let enough : length b / n ≤ length lent / m = (le-div_iff_mul-le (length-positive to)).1 (rw mul_comm within) in
    sym (all-converted from to n m b lent refl refl whole goods fits-to enough)
    ∙ ap (λ (l : List ℕ). converted_to 0 (over l lent)) (records-as from to rs fit)
