-- The measure is n: the call is at n / 4, which is less.
use Rattle.rms.proofs.+root.Given as goal

abbrev pub decreases-root : goal.decreases-root
decreases-root l = l.n
