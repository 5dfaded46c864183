-- The laws of the lines: 01's example, a column as std makes its digits, how long it can be, and one line more.
use Rattle.std.specs.Prelude.{◌≡◌, refl, List, [], ◌∷◌, ◌++◌, ℕ, suc, ◌+◌, ◌-◌, ◌*◌, ◌^◌, ◌≤◌, ◌<◌, length, take, drop, decimal}
use Rattle.std.proofs.Common.{sym, ◌∙◌, ap, append_assoc, arith, rules, length-append, length-drop, length-take-le, take_at, drop_at, drop-drop, take-add}
use Rattle.std.proofs.lemmas.List.{drop-take}
use Rattle.std.proofs.lemmas.Fmt.{AppendsLastDigit, decimal_from_appends, length-decimal-le}
use Rattle.reading.specs.declared.Event.{Event}
use Rattle.reading.specs.Layout.{record_length}
use Rattle.reading.specs.Records.{event_of}
use Rattle.event_lines.specs.Text.{decimal_to, column, kind_name, line_of, lines_of}

-- 01's line: dip 3 3 800 0
example : line_of (record { kind = 1; start = 3; duration = 3; first = 800; second = 0 })
    ≡ 100 ∷ 105 ∷ 112 ∷ 32 ∷ 51 ∷ 32 ∷ 51 ∷ 32 ∷ 56 ∷ 48 ∷ 48 ∷ 32 ∷ 48 ∷ 10 ∷ []
unfolding column kind_name
example = refl

-- std makes a number's digits, 20 at most
digits_appended : AppendsLastDigit decimal_to
digits_appended = search rules

pub length-digits : (n : ℕ) → n < 2 ^ 64 → length (decimal n) ≤ 20
length-digits n h = length-decimal-le 20 n (omega arith) (omega arith) h

pub column-is : (n : ℕ) → n < 2 ^ 64 → 32 ∷ decimal n ≡ column n
unfolding column
column-is n h = ap (λ (l : List ℕ). 32 ∷ l) (sym (decimal_from_appends decimal_to digits_appended 20 n h (length-digits n h)))

-- a space and a number's digits, behind a text
pub column-put : (t u d v : List ℕ) (n : ℕ) → n < 2 ^ 64 → u ≡ t ++ (32 ∷ []) → d ≡ decimal n → v ≡ u ++ d → v ≡ t ++ column n
column-put t u d v n h space digits is =
    is ∙ ap (λ (l : List ℕ). l ++ d) space ∙ append_assoc t (32 ∷ []) d ∙ ap (λ (l : List ℕ). t ++ (32 ∷ l)) digits ∙ ap (λ (l : List ℕ). t ++ l) (column-is n h)

-- records from one on, of the first `count`: the next of them, those behind it, and its line behind the lines of those before it
module _ (records : List ℕ) (count n : ℕ) (room : record_length * count ≤ length records) (x after : List ℕ)
    (are : take (record_length * (count - n)) (drop (record_length * n) records) ≡ x ++ after) (long : length x ≡ record_length) where
  abbrev ys : List ℕ
  ys = drop (record_length * n) records

  abbrev k : ℕ
  k = record_length * (count - (n + 1))

  whole : length (take (record_length * (count - n)) ys) ≡ record_length * (count - n)
  whole = length-take-le (record_length * (count - n)) ys (omega (arith, length-drop (record_length * n) records))

  pub record-inside : n < count
  record-inside = omega (arith, whole, ap length are, length-append x after)

  parts : take (record_length + k) ys ≡ x ++ after
  parts = let e : record_length + k ≡ record_length * (count - n) = omega (arith, record-inside) in ap (λ (m : ℕ). take m ys) e ∙ are

  pub record-is : x ≡ take record_length ys
  record-is =
      let fits : record_length ≤ length ys = omega (arith, record-inside, length-drop (record_length * n) records) in
      sym (take_at x after record_length long)
      ∙ ap (λ (l : List ℕ). take record_length l) (sym parts ∙ take-add record_length k ys)
      ∙ take_at (take record_length ys) _ record_length (length-take-le record_length ys fits)

  pub records-behind : after ≡ take k (drop (record_length * (n + 1)) records)
  records-behind =
      let e : record_length * n + record_length ≡ record_length * (n + 1) = omega arith in
      sym (drop_at x after record_length long)
      ∙ ap (λ (l : List ℕ). drop record_length l) (sym parts)
      ∙ drop-take record_length k ys
      ∙ ap (λ (l : List ℕ). take k l) (drop-drop record_length (record_length * n) records ∙ ap (λ (m : ℕ). drop m records) e)

  pub line-next : (t u v : List ℕ) (e : Event) → u ≡ t ++ lines_of n records → e ≡ event_of x → v ≡ u ++ line_of e → v ≡ t ++ lines_of (n + 1) records
  line-next t u v e before is line =
      let more : suc n ≡ n + 1 = omega arith in
      line
      ∙ ap (λ (l : List ℕ). l ++ line_of e) before
      ∙ append_assoc t (lines_of n records) (line_of e)
      ∙ ap (λ (d : Event). t ++ (lines_of n records ++ line_of d)) (is ∙ ap event_of record-is)
      ∙ ap (λ (m : ℕ). t ++ lines_of m records) more
