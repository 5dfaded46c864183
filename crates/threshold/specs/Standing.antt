-- One value's step of a dip, a swell or an interruption, and what a history and its marks leave of it.
use Rattle.std.specs.Prelude.{Bool, false, ◌&&◌, ◌||◌, List, [], ◌∷◌, ℕ, zero, suc, ◌-◌, ◌*◌, min, max, if◌then◌else◌, Option, Some, None}
use Rattle.settings.specs.declared.Settings.{Settings}
use Rattle.settings.specs.declared.Threshold.{Threshold}
use Rattle.numbers.specs.Notation.{◌≤ᵇ◌, ◌<ᵇ◌, ◌≡ᵇ◌, flag}
use Rattle.numbers.specs.Rules.{Holds}
use Rattle.reading.specs.declared.Kind.{Kind}
use Rattle.reading.specs.declared.Kind.TheVariants.{Dip, Swell, Interruption}
use Rattle.reading.specs.declared.Event.{Event}
use Rattle.reading.specs.declared.Record.{Record}
use Rattle.reading.specs.Values.{since}
use Rattle.reading.specs.Clipping.{clipped_since}
use Rattle.reading.specs.Thresholds.{stands_since, magnitude}
use Rattle.reading.specs.Restore.{standing_rule}
use Rattle.threshold.specs.declared.Standing.{Standing}

-- the two tests against a kind's scaled levels
abbrev pub begins_at : Kind → Threshold → ℕ → Bool
begins_at Dip t r = 10000 * r <ᵇ t.begins
begins_at Swell t r = t.begins <ᵇ 10000 * r
begins_at Interruption t r = 10000 * r <ᵇ t.begins

abbrev pub ends_at : Kind → Threshold → ℕ → Bool
ends_at Dip t r = t.ends ≤ᵇ 10000 * r
ends_at Swell t r = 10000 * r ≤ᵇ t.ends
ends_at Interruption t r = t.ends ≤ᵇ 10000 * r

abbrev pub worse : Kind → ℕ → ℕ → ℕ
worse Dip a b = min a b
worse Swell a b = max a b
worse Interruption a b = min a b

abbrev pub no_event : Standing
no_event = record { start = 0; magnitude = 0; clipped = false }

-- an event that goes on with value r, clipped or not
abbrev pub worsened : Kind → ℕ → Bool → Standing → Standing
worsened k r clipped p = record { start = p.start; magnitude = worse k r p.magnitude; clipped = clipped || p.clipped }

-- after value i, which is r, and which begins the event, ends it, or leaves it as it was
unfoldable pub stepped : Kind → ℕ → ℕ → Bool → Bool → Bool → Standing → Standing
stepped k i r clipped begins ends p =
    if begins then (if p.start ≡ᵇ 0 then record { start = i; magnitude = r; clipped = clipped } else worsened k r clipped p)
    else if ends then no_event
    else if p.start ≡ᵇ 0 then no_event
    else worsened k r clipped p

-- the first standing value after value i, from the one before it
abbrev pub since_after : ℕ → Bool → Bool → ℕ → ℕ
since_after i begins ends before = if begins then (if before ≡ᵇ 0 then i else before) else if ends then 0 else before

-- the record of the event that stood as p before value i and, as q says, stands no longer after it, with its kind's number
abbrev pub ended_at : ℕ → ℕ → Standing → Standing → Option Record
ended_at code i p q =
    let e : Event = record { kind = code; start = p.start; duration = i - p.start; first = p.magnitude; second = 0 } in
    if 0 <ᵇ p.start && q.start ≡ᵇ 0 then Some (record { event = e; clipped = p.clipped }) else None

-- the records, none or one
abbrev pub list_of : Option Record → List Record
list_of None = []
list_of (Some r) = r ∷ []

-- what a history leaves
abbrev pub magnitude_since : Kind → ℕ → List ℕ → ℕ
magnitude_since k zero hist = 0
magnitude_since k (suc a) hist = magnitude k (since (suc a) hist)

-- an event that stands since value a, none where a is 0; and the one that the settings' levels say
abbrev pub standing_since : Kind → ℕ → List ℕ → List ℕ → Standing
standing_since k a hist ms = record { start = a; magnitude = magnitude_since k a hist; clipped = clipped_since a ms }

abbrev pub standing_of : Settings → Kind → List ℕ → List ℕ → Standing
standing_of s k hist ms = standing_since k (stands_since s k hist) hist ms

-- what refusal 11 allows of an event, after v values
abbrev pub ValidStanding : ℕ → Standing → Type 0
ValidStanding v p = Holds (standing_rule v p.start p.magnitude (flag p.clipped))
