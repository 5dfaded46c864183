-- Numbers as bytes. 01: stored numbers are little-endian and unsigned.
use Rattle.std.specs.Prelude.{List, [], ◌∷◌, ◌++◌, ℕ, zero, suc, ◌+◌, ◌*◌, ◌/◌, ◌%◌, ◌≤◌, ◌<◌, length, take, drop, replicate}

-- a list of bytes
abbrev pub Bytes : List ℕ → Type 0
Bytes [] = Unit {0}
Bytes (b ∷ bs) = (b < 256) × Bytes bs

-- a number in w bytes, lowest first
abbrev pub bytes_of : ℕ → ℕ → List ℕ
bytes_of zero x = []
bytes_of (suc w) x = x % 256 ∷ bytes_of w (x / 256)

-- the number that bytes are
abbrev pub number_of : List ℕ → ℕ
number_of [] = 0
number_of (b ∷ bs) = b + 256 * number_of bs

-- a row: numbers of given widths, one behind the other
abbrev pub row : List ℕ → List ℕ → List ℕ
row [] ns = []
row (w ∷ ws) [] = []
row (w ∷ ws) (n ∷ ns) = bytes_of w n ++ row ws ns

-- the numbers of given widths that bytes are
abbrev pub numbers_in : List ℕ → List ℕ → List ℕ
numbers_in [] b = []
numbers_in (w ∷ ws) b = number_of (take w b) ∷ numbers_in ws (drop w b)

-- how many bytes a row of given widths has
abbrev pub total : List ℕ → ℕ
total [] = 0
total (w ∷ ws) = w + total ws

-- widths of at most 8 bytes
abbrev pub Narrow : List ℕ → Type 0
Narrow [] = Unit {0}
Narrow (w ∷ ws) = (w ≤ 8) × Narrow ws

-- as many widths of 4 bytes as there are numbers
abbrev pub fours : List ℕ → List ℕ
fours ns = replicate (length ns) 4

-- and of one byte
abbrev pub ones : List ℕ → List ℕ
ones ns = replicate (length ns) 1
