-- The sentences of 01 and 02 that a reader expects of the readings, where a definition recurses in its own way: the statement.
use Rattle.std.specs.Prelude.{◌≡◌, ◌⊎◌, Bool, true, false, List, ◌∷◌, ◌++◌, map, ℕ, ◌+◌, ◌-◌, ◌*◌, ◌≤◌, ◌<◌, length, take, ℤ}
use Rattle.settings.specs.declared.Settings.{Settings}
use Rattle.settings.specs.Settings.{window_length_of}
use Rattle.reading.specs.declared.Event.{Event}
use Rattle.reading.specs.declared.Record.{Record}
use Rattle.reading.specs.Values.{Samples, energy, root, value, value_count, values, up_to}
use Rattle.reading.specs.Clipping.{value_clipped, marks, last_measured, event_clipped}
use Rattle.reading.specs.Changes.{calm, Signal, signal}
use Rattle.reading.specs.Changes.Signal.{filling, unsettled, steady, changing}
use Rattle.reading.specs.Records.{events}
use Rattle.reading.specs.Feed.{last_value, records, completed, allowed, taken}

-- r is the greatest number with P
pub record Greatest (P : ℕ → Type 0) (r : ℕ) : Type 0 where
  pub holds : P r
  pub most : (k : ℕ) → P k → k ≤ r

-- the signal's truth value, without what is kept of it
abbrev pub truth : Signal → Bool
truth filling = false
truth unsettled = false
truth steady = true
truth (changing k) = false

-- the steady signal at the newest value of a history, true or false
abbrev pub is_steady : Settings → List ℕ → Bool
is_steady s hist = truth (signal s hist)

-- it has never been true, up to the newest value
abbrev pub NeverTrue : Settings → List ℕ → Type 0
NeverTrue s hist = (i : ℕ) → i ≤ length hist → is_steady s (up_to i hist) ≡ false

-- k is the value at which it last turned false: true at k − 1, and false from k on to the newest value
pub record LastTurnedFalse (s : Settings) (hist : List ℕ) (k : ℕ) : Type 0 where
  pub there : k ≤ length hist
  pub before : is_steady s (up_to (k - 1) hist) ≡ true
  pub since : (i : ℕ) → k ≤ i → i ≤ length hist → is_steady s (up_to i hist) ≡ false

-- what the phase says: 0 fewer than N values, 1 never yet steady, 2 steady, 3 in a change since k, the value at which the signal last turned false
abbrev pub PhaseSays : Settings → List ℕ → Signal → Type 0
PhaseSays s hist filling = length hist < window_length_of s
PhaseSays s hist unsettled = (window_length_of s ≤ length hist) × NeverTrue s hist
PhaseSays s hist steady = is_steady s hist ≡ true
PhaseSays s hist (changing k) = LastTurnedFalse s hist k

-- a value from a to l is clipped, where `clipped` tells of each whether it is
pub record ClippedFrom (clipped : ℕ → Bool) (a l : ℕ) : Type 0 where
  pub which : ℕ
  pub from : a ≤ which
  pub to : which ≤ l
  pub told : clipped which ≡ true

pub record Sentences : Type 0 where
  -- the root of n is the greatest number whose square is at most n
  pub root-greatest : (n : ℕ) → Greatest (λ (r : ℕ). r * r ≤ n) (root n)
  -- r(i) is the greatest number with r(i)² × 2 × M ≤ 256 × (E(i) + E(i + 1))
  pub value-greatest : (s : Settings) → 0 < s.samples → (rec : List ℤ) (i : ℕ)
      → Greatest (λ (r : ℕ). r * r * (2 * s.samples) ≤ 256 * (energy s rec i + energy s rec (i + 1))) (value s rec i)
  -- and never above 524,288
  pub value-bounded : (s : Settings) → 0 < s.samples → (rec : List ℤ) → Samples rec → (i : ℕ) → value s rec i ≤ 524288
  -- a value does not change when the recording grows
  pub value_stays : (s : Settings) → 0 < s.samples → (rec xs : List ℤ) (i : ℕ) → 1 ≤ i → i ≤ value_count s rec → value s (rec ++ xs) i ≡ value s rec i
  -- the steady signal at N is calm under T; with fewer values it is false
  pub signal-at-N : (s : Settings) (hist : List ℕ) → length hist ≡ window_length_of s → is_steady s hist ≡ calm s s.limit hist
  pub signal-before-N : (s : Settings) (hist : List ℕ) → length hist < window_length_of s → is_steady s hist ≡ false
  -- later: if it was true at i − 1, it is calm under T at i; if it has never been true, the same
  pub signal-after-true : (s : Settings) (r : ℕ) (older : List ℕ) → is_steady s older ≡ true → is_steady s (r ∷ older) ≡ calm s s.limit (r ∷ older)
  pub signal-never-true : (s : Settings) (r : ℕ) (older : List ℕ) → window_length_of s ≤ length older → NeverTrue s older
      → is_steady s (r ∷ older) ≡ calm s s.limit (r ∷ older)
  -- else let k be the value at which it last turned false: it is false up to k + N, and from k + N + 1 on it is calm under T − H at i
  pub signal-held : (s : Settings) (r : ℕ) (older : List ℕ) (k : ℕ) → LastTurnedFalse s older k → length (r ∷ older) ≤ k + window_length_of s
      → is_steady s (r ∷ older) ≡ false
  pub signal-returns : (s : Settings) (r : ℕ) (older : List ℕ) (k : ℕ) → LastTurnedFalse s older k → k + window_length_of s < length (r ∷ older)
      → is_steady s (r ∷ older) ≡ calm s (s.limit - s.reduction) (r ∷ older)
  -- there is no other case: at i − 1 it was true, or it has never been true, or it last turned false at some k
  pub signal-cases : (s : Settings) (older : List ℕ) → (is_steady s older ≡ true) ⊎ NeverTrue s older ⊎ ((k : ℕ) × LastTurnedFalse s older k)
  -- and the phase, with the k that records and images are made of, says which
  pub signal-says : (s : Settings) (hist : List ℕ) → PhaseSays s hist (signal s hist)
  -- the samples that feed takes are allowed: their records fit and V stays within its end; and no greater number of the block's is
  pub taken-fits : (s : Settings) → 0 < s.samples → (rec block : List ℤ) (room : ℕ) → value_count s rec ≤ last_value
      → (taken s rec block room ≤ length block) × (allowed s rec block room (taken s rec block room) ≡ true)
  pub taken-most : (s : Settings) → 0 < s.samples → (rec block : List ℤ) (room k : ℕ) → k ≤ length block → allowed s rec block room k ≡ true
      → k ≤ taken s rec block room
  -- what a feed writes are the records that its samples add to the recording's; marks aside, a recording's records are its events
  pub records-added : (s : Settings) → 0 < s.samples → (rec block : List ℤ) (n : ℕ) → records s (rec ++ take n block) ≡ records s rec ++ completed s rec block n
  pub records-are-events : (s : Settings) (rec : List ℤ) → map (λ (r : Record). r.event) (records s rec) ≡ events s (values s rec)
  -- an event's mark, read off the marks up to any value i from its last measured one on: 1 exactly when a value from its start to that one is clipped
  pub marked-only-if : (s : Settings) (rec : List ℤ) (i : ℕ) (e : Event) → last_measured e ≤ i → event_clipped (marks s rec i) e ≡ true
      → ClippedFrom (value_clipped s rec) e.start (last_measured e)
  pub marked-if : (s : Settings) (rec : List ℤ) (i : ℕ) (e : Event) → 1 ≤ e.start → last_measured e ≤ i
      → ClippedFrom (value_clipped s rec) e.start (last_measured e) → event_clipped (marks s rec i) e ≡ true
