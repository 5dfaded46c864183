-- The measure is n: the call is at n / 4, which is less.
use Rattle.rms.proofs.+small_root.Given as goal

abbrev pub decreases-small_root : goal.decreases-small_root
decreases-small_root l = l.n
