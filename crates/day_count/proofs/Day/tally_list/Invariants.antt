-- The invariant: the tally is that of the first records (`TalliedTo`), whose kinds are all known, and so each count is at most as many.
use Rattle.std.proofs.Common.{true}
use Rattle.day_count.specs.CountLaws.{TalliedTo}
use Rattle.day_count.proofs.Day.tally_list.Given as goal

abbrev pub invariant-loop-bytes : goal.invariant-loop-bytes
invariant-loop-bytes l = TalliedTo l.self.settings l.self.z l.self.day l.records l.bytes-index l.second l.first true
