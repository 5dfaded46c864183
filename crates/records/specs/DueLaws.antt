-- Records in bytes, one behind the other, and how many are due at one value.
use Rattle.std.specs.Prelude.{◌≡◌, refl, List, [], ◌∷◌, ◌++◌, ℕ, ◌+◌, ◌*◌, ◌≤◌, length, take, drop, Option, Some, None}
use Rattle.std.proofs.Common.{sym, ◌∙◌, ap, append_assoc, arith, length-append, take_at, drop_at, drop-drop}
use Rattle.octets.specs.Bytes.{row}
use Rattle.octets.specs.RowLaws.{length-row}
use Rattle.reading.specs.declared.Record.{Record}
use Rattle.reading.specs.Records.{record_bytes, record_numbers}
use Rattle.reading.specs.Engineer.{over}
use Rattle.reading.specs.Layout.{record_widths, record_length}
use Rattle.threshold.specs.Standing.{list_of}
use Rattle.records.specs.declared.Due.{Due}
use Rattle.records.specs.Due.{records_of, placed}

-- records in bytes
pub length-record_bytes : (es : List Record) → length (record_bytes es) ≡ record_length * length es
length-record_bytes [] = refl
length-record_bytes (e ∷ es) = omega (arith, length-append (row record_widths (record_numbers e)) (record_bytes es), length-row record_widths (record_numbers e) refl, length-record_bytes es)

pub record_bytes-append : (xs ys : List Record) → record_bytes (xs ++ ys) ≡ record_bytes xs ++ record_bytes ys
record_bytes-append [] ys = refl
record_bytes-append (x ∷ xs) ys = rw (record_bytes-append xs ys) (sym (append_assoc (row record_widths (record_numbers x)) (record_bytes xs) (record_bytes ys)))

-- the records due at one value, at most one of each kind
pub length-records_of : (d : Due)
    → length (records_of d) ≡ length (list_of d.dip) + (length (list_of d.swell) + (length (list_of d.interruption) + length (list_of d.change)))
length-records_of d = simp length-append

list_of-one : (e : Option Record) → length (list_of e) ≤ 1
list_of-one None = omega arith
list_of-one (Some e) = omega arith

pub records_of-most : (d : Due) → length (records_of d) ≤ 4
records_of-most d = omega (arith, length-records_of d, list_of-one d.dip, list_of-one d.swell, list_of-one d.interruption, list_of-one d.change)

-- records behind records
module _ (k : ℕ) (es fs : List Record) (lent out : List ℕ) (k-is : k ≡ record_length * length es) (out-is : out ≡ over (record_bytes es) lent) where
  pub placed-records : placed k (record_bytes fs) out ≡ over (record_bytes (es ++ fs)) lent
  placed-records =
      let front = record_bytes es in
      let new = record_bytes fs in
      let rest = drop (length front) lent in
      let long : length front ≡ k = omega (arith, length-record_bytes es) in
      let further : drop (length new) rest ≡ drop (length (front ++ new)) lent =
      drop-drop (length new) (length front) lent ∙ ap (λ (n : ℕ). drop n lent) (sym (length-append front new)) in
      (λ i. take k (out-is i) ++ over new (drop k (out-is i)))
      ∙ ((λ i. take_at front rest k long i ++ over new (drop_at front rest k long i))
      ∙ (sym (append_assoc front new (drop (length new) rest))
      ∙ ((λ i. (front ++ new) ++ further i) ∙ ap (λ (b : List ℕ). over b lent) (sym (record_bytes-append es fs)))))
