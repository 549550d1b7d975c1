-- By the profile: each function's contract is the one that is asked for, with its profile.
use Rattle.convolution.proofs.convolution.Goals as goal

pub returns-in-Running : goal.returns-in-Running
returns-in-Running c = rw c.in-Running.is c.with_running_sums.ensures

pub returns-in-Halved : goal.returns-in-Halved
returns-in-Halved c = rw c.in-Halved.is c.with_halved_sums.ensures
