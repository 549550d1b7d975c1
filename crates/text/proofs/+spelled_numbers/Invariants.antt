-- The recursion goes by the count.
use Rattle.text.proofs.+spelled_numbers.Given as goal

abbrev pub decreases-spelled_numbers : goal.decreases-spelled_numbers
decreases-spelled_numbers l = l.count
