-- 02, N2: dips, swells and interruptions of three channels.
use Rattle.std.specs.Prelude.{Bool, ◌&&◌, List, [], ◌∷◌, map, ℕ, suc, ◌-◌, length, if◌then◌else◌}
use Rattle.settings.specs.declared.Settings.{Settings}
use Rattle.numbers.specs.Notation.{◌<ᵇ◌, ◌≡ᵇ◌}
use Rattle.reading.specs.declared.Kind.{Kind}
use Rattle.reading.specs.declared.Kind.TheVariants.{Dip, Swell, Interruption}
use Rattle.reading.specs.declared.Event.{Event}
use Rattle.reading.specs.Values.{since}
use Rattle.reading.specs.Thresholds.{begins, ends, magnitude, kind_number}
use Rattle.three_reading.specs.declared.Three.{Three}
use Rattle.three_reading.specs.Three.{each, any_of, all_of}

-- by a test of each channel: a dip or a swell begins with any and ends with all, an interruption begins with all and ends with any
abbrev pub begins_of : Kind → Three Bool → Bool
begins_of Dip t = any_of t
begins_of Swell t = any_of t
begins_of Interruption t = all_of t

abbrev pub ends_of : Kind → Three Bool → Bool
ends_of Dip t = all_of t
ends_of Swell t = all_of t
ends_of Interruption t = any_of t

-- a dip stands where any channel is below D, a swell where any is above W, an interruption where all are below I
abbrev pub joint_begins : Settings → Kind → Three ℕ → Bool
joint_begins s kind r = begins_of kind (each (begins s kind) r)

-- no dip stands where all are at D + G or above, no swell where all are at W − G or below, no interruption where one is at I + G or above
abbrev pub joint_ends : Settings → Kind → Three ℕ → Bool
joint_ends s kind r = ends_of kind (each (ends s kind) r)

-- the first standing value of the event that stands after the newest values, 0 where none stands. None stands before value 1; between it is as it was
abbrev pub joint_since : Settings → Kind → List (Three ℕ) → ℕ
joint_since s kind [] = 0
joint_since s kind (r ∷ older) =
    let before = joint_since s kind older in
    if joint_begins s kind r then (if before ≡ᵇ 0 then suc (length older) else before)
    else if joint_ends s kind r then 0
    else before

-- the worst channel's value: the least in dips and interruptions, the greatest in swells
abbrev pub worst : Kind → Three ℕ → ℕ
worst kind r = magnitude kind (r.a ∷ r.b ∷ r.c ∷ [])

-- due at value b, the newest: the event that stood from a to b − 1 and stands no longer
abbrev pub joint_threshold_due : Settings → Kind → List (Three ℕ) → List Event
joint_threshold_due s kind [] = []
joint_threshold_due s kind (r ∷ older) =
    let a = joint_since s kind older in
    let b = suc (length older) in
    let rs = since a (map (worst kind) older) in
    let e : Event = record { kind = kind_number kind; start = a; duration = b - a; first = magnitude kind rs; second = 0 } in
    if 0 <ᵇ a && joint_since s kind (r ∷ older) ≡ᵇ 0 then e ∷ [] else []
