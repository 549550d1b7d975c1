-- The products and sums fit: they are the first taps' numbers, which lie in the tensors.
use native.Mathlib.Omega.{arith}
use Rattle.transposed.proofs.Bounds.{line_bounds}
use Rattle.transposed.proofs.first_tap.Goals as goal

pub overflow_mul-result : goal.overflow_mul-result
overflow_mul-result c = omega (arith, line_bounds c.args.s c.args.line c.requires.grouped c.requires.out_bound c.out_rows-rows.ensures)

pub overflow_mul-result-2 : goal.overflow_mul-result-2
overflow_mul-result-2 c = omega (arith, line_bounds c.args.s c.args.line c.requires.grouped c.requires.out_bound c.out_rows-rows.ensures)

pub overflow_mul-result-3 : goal.overflow_mul-result-3
overflow_mul-result-3 c = omega (arith, line_bounds c.args.s c.args.line c.requires.grouped c.requires.out_bound c.out_rows-rows.ensures)

pub overflow_add-result : goal.overflow_add-result
overflow_add-result c = omega (arith, line_bounds c.args.s c.args.line c.requires.grouped c.requires.out_bound c.out_rows-rows.ensures)
