-- The sums below m strides have their taps.
use Rattle.std.proofs.Common.{◌*◌}
use Rattle.rows.specs.Rows.{Summed, spread}
use Rattle.rows.proofs.add_values.Given as goal

abbrev pub invariant-loop-m : goal.invariant-loop-m
invariant-loop-m l = Summed (spread l.values l.weight l.stride) 1 (l.m * l.stride) l.initial.sums l.sums
