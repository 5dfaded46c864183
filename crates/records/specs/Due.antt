-- The records due at one value, as a list; and bytes written into a buffer.
use Rattle.std.specs.Prelude.{List, [], ◌∷◌, ◌++◌, ℕ, take, drop, Option}
use Rattle.reading.specs.declared.Record.{Record}
use Rattle.reading.specs.Engineer.{over}
use Rattle.threshold.specs.Standing.{list_of}
use Rattle.records.specs.declared.Due.{Due}

abbrev pub records_of : Due → List Record
records_of d = list_of d.dip ++ (list_of d.swell ++ (list_of d.interruption ++ list_of d.change))

-- each in its place, in the order of their kinds; and the records of places
abbrev pub places_of : Due → List (Option Record)
places_of d = d.dip ∷ d.swell ∷ d.interruption ∷ d.change ∷ []

abbrev pub records_in : List (Option Record) → List Record
records_in [] = []
records_in (p ∷ ps) = list_of p ++ records_in ps

-- a buffer with bytes from a place on, its other bytes unchanged
abbrev pub placed : ℕ → List ℕ → List ℕ → List ℕ
placed at bytes buffer = take at buffer ++ over bytes (drop at buffer)
