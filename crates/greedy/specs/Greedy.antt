-- A machine that takes one sample at a time, and the greedy feed of a block over it. A sample is whatever the machine takes.
use Rattle.std.specs.Prelude.{Bool, true, false, not, ◌&&◌, List, [], ◌∷◌, ◌++◌, ℕ, ◌+◌, ◌-◌, length, take, if◌then◌else◌}
use Rattle.numbers.specs.Notation.{◌≤ᵇ◌, ◌<ᵇ◌, ◌≡ᵇ◌}
use Rattle.reading.specs.declared.Record.{Record}
use Rattle.reading.specs.Records.{record_bytes}
use Rattle.reading.specs.Feed.{greatest_to}
use Rattle.reading.specs.Calls.{Outcome}
use Rattle.reading.specs.Engineer.{over, room}

-- of one more sample: whether it would pass V's end, the records due with it, and the machine after it
pub record Machine (X St : Type 0) : Type 0 where
  pub at_end : St → X → Bool
  pub due_with : St → X → List Record
  pub next : St → X → St

-- a run of the greedy feed: the machine after it, the samples taken, the records written, and why it stopped
pub record Run (St : Type 0) : Type 0 where
  pub after : St
  pub taken : ℕ
  pub records : List Record
  pub why : ℕ

abbrev pub stopped : {St : Type 0} → St → ℕ → Run St
stopped st y = record { after = st; taken = 0; records = []; why = y }

abbrev pub joined : {St : Type 0} → ℕ → List Record → Run St → Run St
joined n es r = record { after = r.after; taken = n + r.taken; records = es ++ r.records; why = r.why }

-- stop where the next sample would pass V's end (2) or its records would not fit (1), else take it and go on
unfoldable pub fed_by : {X St : Type 0} → Machine X St → St → List X → ℕ → Run St
fed_by M st [] room = stopped st 0
fed_by M st (x ∷ xs) room =
    elim (M.at_end st x) [
      | true ↦ stopped st 2
      | false ↦
          elim (room <ᵇ length (M.due_with st x)) [
            | true ↦ stopped st 1
            | false ↦ joined 1 (M.due_with st x) (fed_by M (M.next st x) xs (room - length (M.due_with st x)))
          ]
    ]

-- what a run is to who lent a record buffer; a feed with the room of that
abbrev pub outcome_of : {St : Type 0} → List ℕ → Run St → Outcome St
outcome_of lent r = record {
  after = r.after;
  told = record { taken = r.taken; written = length r.records; why = r.why };
  bytes = over (record_bytes r.records) lent;
}

abbrev pub fed_into : {X St : Type 0} → Machine X St → St → List X → List ℕ → Outcome St
fed_into M st block lent = outcome_of lent (fed_by M st block (room lent))

module _ {X St : Type 0} (M : Machine X St) where
  -- the machine after samples, and the records due with them; whether none of them passes V's end
  abbrev pub walked_by : St → List X → St
  walked_by st [] = st
  walked_by st (x ∷ xs) = walked_by (M.next st x) xs

  abbrev pub due_over : St → List X → List Record
  due_over st [] = []
  due_over st (x ∷ xs) = M.due_with st x ++ due_over (M.next st x) xs

  abbrev pub within_end_by : St → List X → Bool
  within_end_by st [] = true
  within_end_by st (x ∷ xs) = not (M.at_end st x) && within_end_by (M.next st x) xs

  -- 01's rule of feed, of any machine: the greatest number of samples that keep V within its end and whose records fit; and why no more
  abbrev pub allowed_by : St → List X → ℕ → ℕ → Bool
  allowed_by st block room n = within_end_by st (take n block) && length (due_over st (take n block)) ≤ᵇ room

  abbrev pub taken_by : St → List X → ℕ → ℕ
  taken_by st block room = greatest_to (allowed_by st block room) (length block)

  abbrev pub why_by : St → List X → ℕ → ℕ
  why_by st block n = if n ≡ᵇ length block then 0 else if within_end_by st (take (n + 1) block) then 1 else 2
