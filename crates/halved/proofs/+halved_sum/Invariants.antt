-- The measure is the count.
use Rattle.halved.proofs.+halved_sum.Given as goal

abbrev pub decreases-halved_sum : goal.decreases-halved_sum
decreases-halved_sum l = l.count
