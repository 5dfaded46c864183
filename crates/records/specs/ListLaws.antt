-- A list of records in bytes: it tells the events of its records. And for a loop over it: record i by itself, its event, and the events from it on.
use Rattle.std.specs.Prelude.{◌≡◌, refl, List, [], ◌∷◌, map, ℕ, suc, ◌+◌, ◌-◌, ◌*◌, ◌/◌, ◌^◌, ◌≤◌, ◌<◌, length, take, drop}
use Rattle.std.proofs.Common.{sym, ◌∙◌, ap, ap₂, arith, length-drop, take_at, drop_at, length-take-le, drop-drop}
use Rattle.octets.specs.Bytes.{Bytes, row}
use Rattle.octets.specs.BytesLaws.{bytes_take, bytes_drop}
use Rattle.octets.specs.RowLaws.{Fit, length-row, numbers_in-row, numbers_in-fit}
use Rattle.reading.specs.declared.Record.{Record}
use Rattle.reading.specs.Layout.{count_width, record_widths_with, record_widths, record_length}
use Rattle.reading.specs.Records.{record_numbers, record_bytes, event_from, event_of, first_events, events_of}
use Rattle.records.specs.DueLaws.{length-record_bytes}

-- records whose numbers fit their bytes, in the edition whose counts have c of them
abbrev pub RecordsFitWith : ℕ → List Record → Type 0
RecordsFitWith c [] = Unit {0}
RecordsFitWith c (r ∷ rs) = Fit (record_widths_with c) (record_numbers r) × RecordsFitWith c rs

abbrev pub RecordsFit : List Record → Type 0
RecordsFit rs = RecordsFitWith count_width rs

pub events-of-records : (rs : List Record) → RecordsFit rs → events_of (record_bytes rs) ≡ map (λ r. r.event) rs
events-of-records rs fit =
    let count : length (record_bytes rs) / record_length ≡ length rs = omega (arith, length-record_bytes rs) in
    ap (λ (n : ℕ). first_events n (record_bytes rs)) count ∙ go rs fit
  where
    go : (rs : List Record) → RecordsFit rs → first_events (length rs) (record_bytes rs) ≡ map (λ r. r.event) rs
    go [] fit = refl
    go (r ∷ rs) fit =
        let front = row record_widths (record_numbers r) in
        let long = length-row record_widths (record_numbers r) refl in
        ap₂ ◌∷◌
        (ap event_of (take_at front (record_bytes rs) record_length long) ∙ ap event_from (numbers_in-row record_widths (record_numbers r) fit.0))
        (ap (first_events (length rs)) (drop_at front (record_bytes rs) record_length long) ∙ go rs fit.1)

-- record i of a buffer, as code cuts it: from record_length × i to record_length × i + record_length
module _ (b : List ℕ) (i : ℕ) where
  abbrev pub record_at : List ℕ
  record_at = take (record_length * i + record_length - record_length * i) (drop (record_length * i) b)

  long : record_length * i + record_length - record_length * i ≡ record_length
  long = omega arith

  pub record-length : record_length * i + record_length ≤ length b → length record_at ≡ record_length
  record-length h = length-take-le _ (drop (record_length * i) b) (omega (arith, length-drop (record_length * i) b)) ∙ long

  pub record_is : record_at ≡ take record_length (drop (record_length * i) b)
  record_is = ap (λ (n : ℕ). take n (drop (record_length * i) b)) long

  -- its event, and those behind it
  pub events-next : (n : ℕ) → i < n
      → first_events (n - i) (drop (record_length * i) b) ≡ event_of record_at ∷ first_events (n - (i + 1)) (drop (record_length * (i + 1)) b)
  events-next n h =
      let count : n - i ≡ suc (n - (i + 1)) = omega arith in
      let place : record_length * i + record_length ≡ record_length * (i + 1) = omega arith in
      ap (λ (m : ℕ). first_events m (drop (record_length * i) b)) count
      ∙ (λ j. event_of (sym record_is j) ∷ first_events (n - (i + 1)) ((drop-drop record_length (record_length * i) b ∙ ap (λ (m : ℕ). drop m b) place) j))

  -- its magnitudes fit 4 bytes
  pub magnitudes-fit : Bytes b → ((event_of record_at).first < 2 ^ 32) × ((event_of record_at).second < 2 ^ 32)
  magnitudes-fit are =
      let from = drop (record_length * i) b in
      let fit = numbers_in-fit record_widths record_at (bytes_take (record_length * i + record_length - record_length * i) from (bytes_drop (record_length * i) b are)) in
      (omega (arith, fit.1.1.1.1.1.0), omega (arith, fit.1.1.1.1.1.1.0))
