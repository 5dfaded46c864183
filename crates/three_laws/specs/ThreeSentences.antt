-- What a reader expects of the readings of three channels: the statement.
use Rattle.std.specs.Prelude.{◌≡◌, Bool, true, false, List, ◌∷◌, ◌++◌, map, ℕ, ◌+◌, ◌-◌, ◌≤◌, ◌<◌, length, take, drop, ℤ}
use Rattle.settings.specs.declared.Settings.{Settings}
use Rattle.settings.specs.Settings.{window_length_of, ValidSettings}
use Rattle.reading.specs.declared.Event.{Event}
use Rattle.reading.specs.declared.Record.{Record}
use Rattle.reading.specs.Values.{value_count}
use Rattle.reading.specs.Clipping.{last_measured, event_clipped}
use Rattle.reading.specs.Changes.{Signal, signal}
use Rattle.reading.specs.Changes.Signal.{filling, unsettled, steady, changing}
use Rattle.reading.specs.Feed.{last_value, records}
use Rattle.reading_laws.specs.Sentences.{ClippedFrom}
use Rattle.three_reading.specs.declared.Three.{Three}
use Rattle.three_reading.specs.Three.{each, all_of, Channel, at, channel, channels, joint_count, joint_values, joint_clipped, joint_marks}
use Rattle.three_reading.specs.JointChanges.{is_true, signals}
use Rattle.three_reading.specs.JointRecords.{joint_events, joint_records_at}
use Rattle.three_reading.specs.ThreeFeed.{joint_records, joint_completed, joint_allowed, joint_taken}

-- the same on every channel
abbrev pub same : {X : Type 0} → X → Three X
same x = record { a = x; b = x; c = x }

abbrev pub equally : {X : Type 0} → List X → List (Three X)
equally l = map same l

-- two channels exchanged: a with b, b with c. One after the other they give every order
abbrev pub swap_a_b : {X : Type 0} → Three X → Three X
swap_a_b t = record { a = t.b; b = t.a; c = t.c }

abbrev pub swap_b_c : {X : Type 0} → Three X → Three X
swap_b_c t = record { a = t.a; b = t.c; c = t.b }

-- the joint signal at value i of a history, true or false
abbrev pub joint_true : Settings → List (Three ℕ) → ℕ → Bool
joint_true s hist i = is_true (signals s (drop (length hist - i) hist)).joint

-- it has never been true, up to the newest value
abbrev pub JointNever : Settings → List (Three ℕ) → Type 0
JointNever s hist = (i : ℕ) → i ≤ length hist → joint_true s hist i ≡ false

-- k is the value at which it last turned false: true at k − 1, and false from k on to the newest value
pub record JointTurned (s : Settings) (hist : List (Three ℕ)) (k : ℕ) : Type 0 where
  pub there : k ≤ length hist
  pub before : joint_true s hist (k - 1) ≡ true
  pub since : (i : ℕ) → k ≤ i → i ≤ length hist → joint_true s hist i ≡ false

-- what the joint phase says: 0 fewer than N values, 1 never yet true, 2 true, 3 in a change since k, the value at which the joint signal last turned false
abbrev pub JointSays : Settings → List (Three ℕ) → Signal → Type 0
JointSays s hist filling = length hist < window_length_of s
JointSays s hist unsettled = (window_length_of s ≤ length hist) × JointNever s hist
JointSays s hist steady = joint_true s hist (length hist) ≡ true
JointSays s hist (changing k) = JointTurned s hist k

pub record ThreeSentences : Type 0 where
  -- V is the same of each channel
  pub same_count : (s : Settings) (rec : List (Three ℤ)) (c : Channel) → value_count s (channel c rec) ≡ joint_count s rec
  -- three channels with one recording have the records of that recording
  pub equal-channels : (s : Settings) (rec : List ℤ) → joint_records s (equally rec) ≡ records s rec
  -- channels in another order have the same records
  pub any_order : (s : Settings) (rec : List (Three ℤ))
      → (joint_records s (map swap_a_b rec) ≡ joint_records s rec) × (joint_records s (map swap_b_c rec) ≡ joint_records s rec)
  -- any channel's own signal is 01's, of its own values
  pub own-signals : (s : Settings) (hist : List (Three ℕ)) (c : Channel) → at c (signals s hist).own ≡ signal s (channel c hist)
  -- the joint signal is true where all three are, and nowhere else
  pub joint-signal : (s : Settings) (hist : List (Three ℕ)) → is_true (signals s hist).joint ≡ all_of (each (λ (own : List ℕ). is_true (signal s own)) (channels hist))
  -- the joint phase, with the k that records are made of, says what is so; and a phase that says what is so is the joint one
  pub joint-says : (s : Settings) (hist : List (Three ℕ)) → JointSays s hist (signals s hist).joint
  pub joint-only : (s : Settings) (hist : List (Three ℕ)) (p : Signal) → JointSays s hist p → (signals s hist).joint ≡ p
  -- the triples that feed takes are allowed: their records fit and V stays within its end; and no greater number of the block's is
  pub taken-fits : (s : Settings) → 0 < s.samples → (rec block : List (Three ℤ)) (room : ℕ) → joint_count s rec ≤ last_value
      → (joint_taken s rec block room ≤ length block) × (joint_allowed s rec block room (joint_taken s rec block room) ≡ true)
  pub taken-most : (s : Settings) → 0 < s.samples → (rec block : List (Three ℤ)) (room k : ℕ) → k ≤ length block → joint_allowed s rec block room k ≡ true
      → k ≤ joint_taken s rec block room
  -- what a feed writes are the records that its triples add to the recording's
  pub records-added : (s : Settings) → 0 < s.samples → (rec block : List (Three ℤ)) (n : ℕ)
      → joint_records s (rec ++ take n block) ≡ joint_records s rec ++ joint_completed s rec block n
  -- at most three records are due at one value
  pub at-most-three : (s : Settings) → ValidSettings s → (rec : List (Three ℤ)) (i : ℕ) → length (joint_records_at s rec i) ≤ 3
  -- marks aside, a recording's records are its events
  pub records-are-events : (s : Settings) (rec : List (Three ℤ)) → map (λ (r : Record). r.event) (joint_records s rec) ≡ joint_events s (joint_values s rec)
  -- an event's mark, read off the joint marks up to any value i from its last measured one on: 1 exactly when a joint value from start to that one is clipped
  pub marked-only-if : (s : Settings) (rec : List (Three ℤ)) (i : ℕ) (e : Event) → last_measured e ≤ i → event_clipped (joint_marks s rec i) e ≡ true
      → ClippedFrom (joint_clipped s rec) e.start (last_measured e)
  pub marked-if : (s : Settings) (rec : List (Three ℤ)) (i : ℕ) (e : Event) → 1 ≤ e.start → last_measured e ≤ i
      → ClippedFrom (joint_clipped s rec) e.start (last_measured e) → event_clipped (joint_marks s rec i) e ≡ true
  -- a joint signal that turned false at k is true again after k + N at the earliest, as an own one is
  pub change-lasts : (s : Settings) (r : Three ℕ) (older : List (Three ℕ)) (k : ℕ) → (signals s older).joint ≡ changing k → (signals s (r ∷ older)).joint ≡ steady
      → k + window_length_of s < length (r ∷ older)
