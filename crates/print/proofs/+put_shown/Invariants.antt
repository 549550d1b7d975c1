-- The recursion goes by the count.
use Rattle.print.proofs.+put_shown.Given as goal

abbrev pub decreases-put_shown : goal.decreases-put_shown
decreases-put_shown l = l.count
