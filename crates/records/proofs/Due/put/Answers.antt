-- A place that holds a record adds it behind those before it (`placed-records`); an empty one adds nothing.
use Rattle.std.proofs.Common.{◌≡◌, zero, suc, [], ◌∷◌, ◌++◌, ◌+◌, ◌-◌, ◌*◌, ◌<◌, ℕ, List, length, take, get_or, Option, Some, None, sym, ap, ◌∙◌, add-one, append-nil, append_assoc, length-append, arith}
use borrow.Rule.Slice.PartMut.{put_mid}
use Rattle.reading.specs.declared.Record.{Record}
use Rattle.reading.specs.Records.{record_bytes}
use Rattle.reading.specs.Engineer.{over}
use Rattle.reading.specs.Layout.{record_length}
use Rattle.threshold.specs.Standing.{list_of}
use Rattle.records.specs.Due.{records_in}
use Rattle.records.specs.DueLaws.{length-record_bytes, placed-records}
use Rattle.records.proofs.Due.put.Goals.{in-Some, in_default}
use Rattle.records.proofs.Due.put.Goals as goal

-- the records in one place more
next-place : (ps : List (Option Record)) (i : ℕ) → i < length ps → records_in (take (suc i) ps) ≡ records_in (take i ps) ++ list_of (get_or ps i None)
next-place [] i h = absurd (omega arith)
next-place (p ∷ ps) zero h = append-nil (list_of p)
next-place (p ∷ ps) (suc i) h =
    ap (λ (rs : List Record). list_of p ++ rs) (next-place ps i (omega arith)) ∙ sym (append_assoc (list_of p) (records_in (take i ps)) (list_of (get_or ps i None)))

-- what stands at the front with it: `at` is the place behind the records before it
abbrev Front : List (Option Record) → ℕ → ℕ → List ℕ → List ℕ → Type 0
Front ps i at lent out = (at ≡ record_length * length (records_in (take i ps))) × (out ≡ over (record_bytes (records_in (take i ps))) lent)

module _ (ps : List (Option Record)) (i at : ℕ) (lent out : List ℕ) (h : i < length ps) (front : Front ps i at lent out) where
  abbrev before : List Record
  before = records_in (take i ps)

  holds : (p : Option Record) → get_or ps i None ≡ p → records_in (take (i + 1) ps) ≡ before ++ list_of p
  holds p e = ap (λ (k : ℕ). records_in (take k ps)) (add-one i) ∙ next-place ps i h ∙ ap (λ (p : Option Record). before ++ list_of p) e

  one : (r : Record) (part : List ℕ) {q : ℕ} {b : List ℕ} → get_or ps i None ≡ Some r → part ≡ record_bytes (r ∷ []) → q ≡ at + record_length
      → b ≡ put_mid at (at + record_length - at) out part → Front ps (i + 1) q lent b
  one r part e part-is q-is b-is =
      let n : at + record_length - at ≡ length (record_bytes (r ∷ [])) = omega (arith, length-record_bytes (r ∷ [])) in
      rw (holds (Some r) e)
      (omega (arith, length-append before (r ∷ [])), b-is ∙ ((λ j. put_mid at (n j) out (part-is j)) ∙ placed-records at before (r ∷ []) lent out front.0 front.1))

  none : get_or ps i None ≡ None → Front ps (i + 1) at lent out
  none e = rw (holds None e, append-nil) front

pub loop-place-preserved : goal.loop-place-preserved
loop-place-preserved c =
    let l = c.loop-place in
    let ps = c.places-place-items.result in
    let lent = c.args.buffer.now in
    elim c.match-place.branch [
      | in-Some w ↦ one ps l.place-index l.at lent l.buffer (omega arith) l.invariant w.in-Some.record w.put_record.new.part w.in-Some.is w.put_record.ensures w.at-is w.buffer-is
      | in_default w ↦ rw (w.at-is, w.buffer-is) (none ps l.place-index l.at lent l.buffer (omega arith) l.invariant w.in_default.is)
    ]
