-- The numbers fit by `line_bounds`.
use native.Mathlib.Omega.{arith}
use Rattle.places.proofs.Lines.{line_bounds}
use Rattle.convolution.proofs.line_of.Goals as goal

pub overflow_mul-result : goal.overflow_mul-result
overflow_mul-result c = omega (arith, line_bounds c.args.s c.args.number c.requires.grouped c.requires.out_bound c.out_rows-rows.ensures)
