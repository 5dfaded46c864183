-- A feed as a turn of feeding all samples, whatever the logger.
use Rattle.std.specs.Prelude.{◌≡◌, ◌≢◌, List, ℕ, ℤ, ◌-◌, ◌*◌, ◌≤◌, ◌<◌, length, drop}
use Rattle.reading.specs.Layout.{record_length}
use Rattle.reading.specs.Told.{Told}

-- a feed of samples, with so much room: what it writes has room; where it stopped for want of room it leaves the rest to feed, which is progress with room for
-- four records; else it leaves what the samples leave
pub record FedTurn {L : Type 0} (Leaves : L → List ℤ → L → ℕ → Type 0) (whole_of : ℕ → ℕ) (before : L) (samples : List ℤ) (room : ℕ) (after : L) (told : Told) : Type 0 where
  pub fits : record_length * told.written ≤ room
  pub inside : told.taken ≤ length samples
  pub whole : whole_of (length samples - told.taken) ≡ length samples - told.taken
  pub last : told.why ≢ 1 → Leaves before samples after told.why
  pub rest : told.why ≡ 1 → (end : L) (why : ℕ) → Leaves after (drop told.taken samples) end why → Leaves before samples end why
  pub some : told.why ≡ 1 → 4 * record_length ≤ room → 0 < told.taken
