-- A past whose records go value by value grows; so does the recording of one channel, whose records are the events that the reading has, marks aside.
use Rattle.std.specs.Prelude.{◌≡◌, refl, List, [], ◌∷◌, ◌++◌, map, ℕ, zero, suc, ◌+◌, ◌≤◌, ◌<◌, ℤ}
use Rattle.std.proofs.Common.{sym, ◌∙◌, ap, ap₂, append_assoc, append-nil, arith, add-suc}
use Rattle.std.proofs.lemmas.List.{map-append}
use Rattle.settings.specs.declared.Settings.{Settings}
use Rattle.reading.specs.declared.Event.{Event}
use Rattle.reading.specs.declared.Record.{Record}
use Rattle.reading.specs.Values.{history}
use Rattle.reading.specs.Clipping.{marks, record_of}
use Rattle.reading.specs.Records.{due, events, records_at}
use Rattle.reading.specs.Feed.{due_after}
use Rattle.reading_laws.specs.RecordingsLaws.{value_count-grow, records_at-grow}
use Rattle.reading_laws.specs.Past.{Past, past, Grows}

-- a past by the records due at each value
module _ {X : Type 0} (P : Past X) (at : List X → ℕ → List Record) (none : (rec : List X) (v : ℕ) → P.after rec v 0 ≡ [])
    (more : (rec : List X) (v c : ℕ) → P.after rec v (suc c) ≡ P.after rec v c ++ at rec (v + suc c)) where
  after-add : (rec : List X) (v c d : ℕ) → P.after rec v (c + d) ≡ P.after rec v c ++ P.after rec (v + c) d
  after-add rec v c zero =
      let e : c + 0 ≡ c = omega arith in
      ap (P.after rec v) e ∙ (sym (append-nil (P.after rec v c)) ∙ ap (λ (l : List Record). P.after rec v c ++ l) (sym (none rec (v + c))))
  after-add rec v c (suc d) =
      let e : v + suc (c + d) ≡ v + c + suc d = omega arith in
      ap (P.after rec v) (add-suc c d)
      ∙ more rec v (c + d)
      ∙ ap₂ ◌++◌ (after-add rec v c d) (ap (at rec) e)
      ∙ append_assoc (P.after rec v c) (P.after rec (v + c) d) (at rec (v + c + suc d))
      ∙ ap (λ (l : List Record). P.after rec v c ++ l) (sym (more rec (v + c) d))

  module _ (count-grow : (rec xs : List X) → P.count rec ≤ P.count (rec ++ xs))
      (at-grow : (rec xs : List X) (i : ℕ) → i ≤ P.count rec → at (rec ++ xs) i ≡ at rec i) where
    after-grow : (rec xs : List X) (v c : ℕ) → v + c ≤ P.count rec → P.after (rec ++ xs) v c ≡ P.after rec v c
    after-grow rec xs v zero h = none (rec ++ xs) v ∙ sym (none rec v)
    after-grow rec xs v (suc c) h =
        more (rec ++ xs) v c ∙ ap₂ ◌++◌ (after-grow rec xs v c (omega arith)) (at-grow rec xs (v + suc c) h) ∙ sym (more rec v c)

    pub grows-by-value : Grows P
    grows-by-value = record { count-grow = count-grow; after_none = none; after-add = after-add; after-grow = after-grow }

pub events-back : (ms : List ℕ) (es : List Event) → map (λ (r : Record). r.event) (map (record_of ms) es) ≡ es
events-back ms [] = refl
events-back ms (e ∷ es) = ap (λ (l : List Event). e ∷ l) (events-back ms es)

module _ (s : Settings) where
  -- marks aside, the records are the events
  pub records-events : (rec : List ℤ) (c : ℕ) → map (λ (r : Record). r.event) (due_after s rec 0 c) ≡ events s (history s rec c)
  records-events rec zero = refl
  records-events rec (suc c) =
      let e : 0 + suc c ≡ suc c = omega arith in
      map-append (λ (r : Record). r.event) (due_after s rec 0 c) (records_at s rec (0 + suc c))
      ∙ ap₂ ◌++◌ (records-events rec c) (ap (λ (i : ℕ). map (λ (r : Record). r.event) (records_at s rec i)) e ∙ events-back (marks s rec (suc c)) (due s (history s rec (suc c))))

  pub past-grows : 0 < s.samples → Grows (past s)
  past-grows some = grows-by-value (past s) (records_at s) (λ rec v. refl) (λ rec v c. refl) (λ rec xs. value_count-grow s rec xs some) (λ rec xs. records_at-grow s rec xs some)
