-- 01, "Dips, swells, interruptions".
use Rattle.std.specs.Prelude.{Bool, ◌&&◌, List, [], ◌∷◌, ℕ, suc, ◌+◌, ◌-◌, ◌*◌, min, max, length, if◌then◌else◌}
use Rattle.settings.specs.declared.Settings.{Settings}
use Rattle.numbers.specs.Notation.{◌≤ᵇ◌, ◌<ᵇ◌, ◌≡ᵇ◌}
use Rattle.reading.specs.declared.Kind.{Kind}
use Rattle.reading.specs.declared.Kind.TheVariants.{Dip, Swell, Interruption}
use Rattle.reading.specs.declared.Event.{Event}
use Rattle.reading.specs.Values.{since}

-- at a value r the event stands: 10,000 × r is below D × U for a dip, above W × U for a swell, below I × U for an interruption
abbrev pub begins : Settings → Kind → ℕ → Bool
begins s Dip r = 10000 * r <ᵇ s.dip * s.declared
begins s Swell r = s.swell * s.declared <ᵇ 10000 * r
begins s Interruption r = 10000 * r <ᵇ s.interruption * s.declared

-- at a value r none stands: 10,000 × r is at or above (D + G) × U, at or below (W − G) × U for a swell, at or above (I + G) × U
abbrev pub ends : Settings → Kind → ℕ → Bool
ends s Dip r = (s.dip + s.hysteresis) * s.declared ≤ᵇ 10000 * r
ends s Swell r = 10000 * r ≤ᵇ (s.swell - s.hysteresis) * s.declared
ends s Interruption r = (s.interruption + s.hysteresis) * s.declared ≤ᵇ 10000 * r

-- the first standing value of the event that stands after the newest value, 0 where none stands. None stands before value 1; between
-- the two levels it is as it was
abbrev pub stands_since : Settings → Kind → List ℕ → ℕ
stands_since s kind [] = 0
stands_since s kind (r ∷ older) =
    let before = stands_since s kind older in
    if begins s kind r then (if before ≡ᵇ 0 then suc (length older) else before)
    else if ends s kind r then 0
    else before

-- the least of values, 0 of none
abbrev pub least : List ℕ → ℕ
least [] = 0
least (r ∷ []) = r
least (r ∷ (x ∷ xs)) = min r (least (x ∷ xs))

-- the greatest of values
abbrev pub greatest : List ℕ → ℕ
greatest [] = 0
greatest (r ∷ rs) = max r (greatest rs)

-- a record's first magnitude: the least value of a dip or an interruption, the greatest of a swell
abbrev pub magnitude : Kind → List ℕ → ℕ
magnitude Dip rs = least rs
magnitude Swell rs = greatest rs
magnitude Interruption rs = least rs

-- the kind's number in a record
abbrev pub kind_number : Kind → ℕ
kind_number Dip = 1
kind_number Swell = 2
kind_number Interruption = 3

-- due at value b, the newest: the event that stood from a to b − 1 and stands no longer
abbrev pub threshold_due : Settings → Kind → List ℕ → List Event
threshold_due s kind [] = []
threshold_due s kind (r ∷ older) =
    let a = stands_since s kind older in
    let b = suc (length older) in
    let e : Event = record { kind = kind_number kind; start = a; duration = b - a; first = magnitude kind (since a older); second = 0 } in
    if 0 <ᵇ a && stands_since s kind (r ∷ older) ≡ᵇ 0 then e ∷ [] else []
