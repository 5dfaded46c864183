-- 01, "The event program": the lines of records, in ASCII.
use Rattle.std.specs.Prelude.{List, [], ◌∷◌, ◌++◌, ℕ, zero, suc, ◌+◌, ◌*◌, ◌/◌, ◌%◌, take, drop, if◌then◌else◌}
use Rattle.numbers.specs.Notation.{◌<ᵇ◌, ◌≡ᵇ◌}
use Rattle.reading.specs.declared.Event.{Event}
use Rattle.reading.specs.Layout.{record_length}
use Rattle.reading.specs.Records.{event_of}

-- a number's digits, at most k of them: those of its tenth, then its last
abbrev pub decimal_to : ℕ → ℕ → List ℕ
decimal_to zero n = []
decimal_to (suc k) n = if n <ᵇ 10 then (48 + n) ∷ [] else decimal_to k (n / 10) ++ ((48 + n % 10) ∷ [])

-- a space and a number of at most 20 digits
unfoldable pub column : ℕ → List ℕ
column n = 32 ∷ decimal_to 20 n

-- the kinds' names
abbrev pub dip : List ℕ
dip = 100 ∷ 105 ∷ 112 ∷ []

abbrev pub swell : List ℕ
swell = 115 ∷ 119 ∷ 101 ∷ 108 ∷ 108 ∷ []

abbrev pub interruption : List ℕ
interruption = 105 ∷ 110 ∷ 116 ∷ 101 ∷ 114 ∷ 114 ∷ 117 ∷ 112 ∷ 116 ∷ 105 ∷ 111 ∷ 110 ∷ []

abbrev pub rvc : List ℕ
rvc = 114 ∷ 118 ∷ 99 ∷ []

unfoldable pub kind_name : ℕ → List ℕ
kind_name k = if k ≡ᵇ 1 then dip else if k ≡ᵇ 2 then swell else if k ≡ᵇ 3 then interruption else rvc

-- kind, start, duration and the two magnitudes; then the line's end
abbrev pub line_of : Event → List ℕ
line_of e = kind_name e.kind ++ (column e.start ++ (column e.duration ++ (column e.first ++ (column e.second ++ (10 ∷ [])))))

-- the lines of the first n records of a buffer
abbrev pub lines_of : ℕ → List ℕ → List ℕ
lines_of zero records = []
lines_of (suc n) records = lines_of n records ++ line_of (event_of (take record_length (drop (record_length * n) records)))
