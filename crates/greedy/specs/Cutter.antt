-- A state that takes samples by half-cycles, and the machine that it is, sample by sample.
use Rattle.std.specs.Prelude.{Bool, false, List, [], ◌∷◌, ℕ, length, if◌then◌else◌}
use Rattle.numbers.specs.Notation.{◌<ᵇ◌}
use Rattle.reading.specs.declared.Record.{Record}
use Rattle.rms.specs.declared.Share.{Share}
use Rattle.greedy.specs.Greedy.{Machine}

pub record Cutter (X St : Type 0) : Type 0 where
  -- how many of the samples to come belong to the half-cycle in progress, and whether the last of them ends it
  pub cut : St → List X → Share
  -- samples more that leave it in progress
  pub part : St → List X → St
  -- samples that end it: whether V would pass its end, the records due, and the state after them
  pub passes : St → List X → Bool
  pub due : St → List X → List Record
  pub half : St → List X → St

-- why samples that end it are not taken, by whether V would pass its end and the records due: 2 past V's end, 1 no room for the records; 0 where they are
abbrev pub why_not_by : Bool → List Record → ℕ → ℕ
why_not_by past due room = if past then 2 else if room <ᵇ length due then 1 else 0

module _ {X St : Type 0} (C : Cutter X St) where
  -- whether the next sample ends it
  abbrev pub ends_half : St → X → Bool
  ends_half st x = (C.cut st (x ∷ [])).completes

  -- sample by sample
  abbrev pub machine_of : Machine X St
  machine_of = record {
    at_end = λ st x. if ends_half st x then C.passes st (x ∷ []) else false;
    due_with = λ st x. if ends_half st x then C.due st (x ∷ []) else [];
    next = λ st x. if ends_half st x then C.half st (x ∷ []) else C.part st (x ∷ []);
  }
