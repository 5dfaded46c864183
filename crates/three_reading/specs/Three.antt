-- 02, N2: three channels. A recording is a list of triples, the first one first; a history is a list of the three values, the newest first.
use Rattle.std.specs.Prelude.{Bool, ◌&&◌, ◌||◌, List, [], ◌∷◌, map, ℕ, zero, suc, ℤ}
use Rattle.settings.specs.declared.Settings.{Settings}
use Rattle.numbers.specs.Notation.{flag}
use Rattle.reading.specs.Values.{value, value_count}
use Rattle.reading.specs.Clipping.{value_clipped}
use Rattle.three_reading.specs.declared.Three.{Three}

abbrev pub each : {X Y : Type 0} → (X → Y) → Three X → Three Y
each f t = record { a = f t.a; b = f t.b; c = f t.c }

abbrev pub any_of : Three Bool → Bool
any_of t = t.a || (t.b || t.c)

abbrev pub all_of : Three Bool → Bool
all_of t = t.a && (t.b && t.c)

-- the channels, and what one of them has
pub data Channel : Type 0 where
  on_a : Channel
  on_b : Channel
  on_c : Channel

abbrev pub at : {X : Type 0} → Channel → Three X → X
at on_a t = t.a
at on_b t = t.b
at on_c t = t.c

-- samples in turn a, b, c; an incomplete triple at the end is none
abbrev pub triples_of : List ℤ → List (Three ℤ)
triples_of [] = []
triples_of (x ∷ []) = []
triples_of (x ∷ (y ∷ [])) = []
triples_of (x ∷ (y ∷ (z ∷ rest))) = record { a = x; b = y; c = z } ∷ triples_of rest

-- what a list of triples has of one channel, and of each: its recording, or its history
abbrev pub channel : {X : Type 0} → Channel → List (Three X) → List X
channel c l = map (at c) l

abbrev pub channels : {X : Type 0} → List (Three X) → Three (List X)
channels l = record { a = channel on_a l; b = channel on_b l; c = channel on_c l }

-- V, the same of each channel: `same_count` of `ThreeSentences`
abbrev pub joint_count : Settings → List (Three ℤ) → ℕ
joint_count s rec = value_count s (channel on_a rec)

-- r(i) of each channel, from 1, and back to r(1)
abbrev pub joint_value : Settings → List (Three ℤ) → ℕ → Three ℕ
joint_value s rec i = each (λ (own : List ℤ). value s own i) (channels rec)

abbrev pub joint_history : Settings → List (Three ℤ) → ℕ → List (Three ℕ)
joint_history s rec zero = []
joint_history s rec (suc i) = joint_value s rec (suc i) ∷ joint_history s rec i

abbrev pub joint_values : Settings → List (Three ℤ) → List (Three ℕ)
joint_values s rec = joint_history s rec (joint_count s rec)

-- a joint value is clipped if any channel's is; the marks of the joint values back to the first
abbrev pub joint_clipped : Settings → List (Three ℤ) → ℕ → Bool
joint_clipped s rec i = any_of (each (λ (own : List ℤ). value_clipped s own i) (channels rec))

abbrev pub joint_marks : Settings → List (Three ℤ) → ℕ → List ℕ
joint_marks s rec zero = []
joint_marks s rec (suc i) = flag (joint_clipped s rec (suc i)) ∷ joint_marks s rec i
