-- 02, N2: the records of three channels, in the base's form and order.
use Rattle.std.specs.Prelude.{List, [], ◌∷◌, ◌++◌, map, ℕ, ℤ}
use Rattle.settings.specs.declared.Settings.{Settings}
use Rattle.reading.specs.declared.Kind.TheVariants.{Dip, Swell, Interruption}
use Rattle.reading.specs.declared.Event.{Event}
use Rattle.reading.specs.declared.Record.{Record}
use Rattle.reading.specs.Clipping.{record_of}
use Rattle.three_reading.specs.declared.Three.{Three}
use Rattle.three_reading.specs.Three.{joint_history, joint_marks}
use Rattle.three_reading.specs.JointEvents.{joint_threshold_due}
use Rattle.three_reading.specs.JointChanges.{joint_change_due}

-- the events due at the newest values, by kind
abbrev pub joint_due : Settings → List (Three ℕ) → List Event
joint_due s hist = joint_threshold_due s Dip hist ++ (joint_threshold_due s Swell hist ++ (joint_threshold_due s Interruption hist ++ joint_change_due s hist))

-- all events of a history, by the value at which they are due
abbrev pub joint_events : Settings → List (Three ℕ) → List Event
joint_events s [] = []
joint_events s (r ∷ older) = joint_events s older ++ joint_due s (r ∷ older)

-- the records due at value i of a recording; a record is marked if a joint value from its start to the last one in its first magnitude is clipped
abbrev pub joint_records_at : Settings → List (Three ℤ) → ℕ → List Record
joint_records_at s rec i = map (record_of (joint_marks s rec i)) (joint_due s (joint_history s rec i))
