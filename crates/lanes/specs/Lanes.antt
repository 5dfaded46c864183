-- What the samples of one channel are where a block of triples is read as three rows of neighbours: the lane that the code lays side by side.
use Rattle.std.specs.Prelude.{◌≡◌, List, [], ◌∷◌, ◌++◌, ℕ, zero, suc, ◌-◌, ◌*◌, ◌/◌, ◌%◌, ◌^◌, ◌≤◌, length, take, drop, ℤ}
use Rattle.rms.specs.Gather.{part_of}
use Rattle.rms.specs.declared.Part.{Part}
use Rattle.three_reading.specs.declared.Three.{Three}
use Rattle.three_reading.specs.Three.{triples_of, Channel, at, channel}
use Rattle.three_reading.specs.Three.Channel.{on_a, on_b, on_c}
use Rattle.three_state.specs.ThreeStep.{parts_of}

-- one of three, by the number of its turn
abbrev pub by_turn : ℕ → ℤ → ℤ → ℤ → ℤ
by_turn zero x y z = x
by_turn (suc n) x y z = by_turn n y z x

-- whose turn a channel has where a block begins one sample later: b has a's, c has b's, and a has c's
abbrev pub later : Channel → Channel
later on_a = on_c
later on_b = on_a
later on_c = on_b

-- of each column one sample: in the first column a's of the first row, b's of the second and c's of the third, and in each next column one row higher, where the
-- last is above the first
abbrev pub lane_of : Channel → List ℤ → List ℤ → List ℤ → List ℤ
lane_of c [] ys zs = []
lane_of c (x ∷ xs) [] zs = []
lane_of c (x ∷ xs) (y ∷ ys) [] = []
lane_of c (x ∷ xs) (y ∷ ys) (z ∷ zs) = at c (record { a = x; b = y; c = z }) ∷ lane_of (later c) xs ys zs

-- of a block that is three rows of n samples
abbrev pub lane_in : Channel → ℕ → List ℤ → List ℤ
lane_in c n block = lane_of c (take n block) (take n (drop n block)) (take n (drop (2 * n) block))

-- how many of n triples are read as rows: the most that leave 1 when divided by three, and of none, none
abbrev pub row_length : ℕ → ℕ
row_length n = n - (n - 1) % 3

-- of any block: the rows, and the triples behind them in the block's order
unfoldable pub lane : Channel → List ℤ → List ℤ
lane c block = let m = row_length (length block / 3) in lane_in c m (take (3 * m) block) ++ channel c (triples_of (drop (3 * m) block))

-- where it is laid: what is behind it stays
abbrev pub laid : Channel → List ℤ → List ℤ → List ℤ
laid c block old = lane c block ++ drop (length block / 3) old

-- the sum of squares of each channel is at most 2^30 a triple, as it is of samples within 16 bits
abbrev pub SquaresFit : List (Three ℤ) → Type 0
SquaresFit xs = (c : Channel) → (part_of (channel c xs)).squares ≤ length xs * 2 ^ 30

-- the parts of triples, with that
abbrev pub PartsAre : List (Three ℤ) → Three Part → Type 0
PartsAre xs p = (p ≡ parts_of xs) × SquaresFit xs
