-- Samples fed with room for all their records, over any machine.
use Rattle.std.specs.Prelude.{List, [], ◌∷◌, ℕ, if◌then◌else◌}
use Rattle.greedy.specs.Greedy.{Machine}

-- the machine after samples, and why it took no more
pub record AllFed (St : Type 0) : Type 0 where
  pub after : St
  pub why : ℕ

-- sample by sample, until all are taken (0) or the next would pass V's end (2)
unfoldable pub fed_all_by : {X St : Type 0} → Machine X St → St → List X → AllFed St
fed_all_by M st [] = record { after = st; why = 0 }
fed_all_by M st (x ∷ xs) = if M.at_end st x then record { after = st; why = 2 } else fed_all_by M (M.next st x) xs
