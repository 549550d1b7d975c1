-- One turn writes one row more.
use mathlib.Core.Path.{◌≡◌, ap, ◌∙◌}
use Prim.Native.Nat.{ℕ, ◌*◌, ◌/◌}
use native.Mathlib.Omega.{arith}
use lib.ListN.{length}
use Rattle.tensor.specs.Table.{tabulate}
use Rattle.shape.specs.Volumes.{out_rows}
use native.Mathlib.Nat.{zero-mul}
use Rattle.tensor.proofs.Table.{filled_none, filled_all}
use Rattle.tensor.proofs.Lines.{row_end, rows_end, rows_more}
use Rattle.convolution.proofs.Tensors.fill.Goals as goal

pub nonzero_div-rows : goal.nonzero_div-rows
nonzero_div-rows c = c.args.self.now.fitting.shape.sound.x.out_1

pub loop-line-init : goal.loop-line-init
loop-line-init c = rw zero-mul (filled_none _ _)

pub loop-line-preserved : goal.loop-line-preserved
loop-line-preserved c = rows_more _ _ _ c.loop-line.invariant c.fill_line.ensures (omega (arith, row_end c.loop-line.line c.args.self.now.shape.x.out (length c.args.output.now) c.loop-line-test.true, c.loop-line.invariant.kept))

pub returns : goal.returns
returns c =
    let s = c.args.self.now.shape in
    let h = c.args.self.now.fitting.shape.sound in
    let e = rows_end (s.n * s.channels * out_rows s) (c.requires.output_len ∙ h.outputs_is) h.x.out_1 in
    let i : c.loop-line.line ≡ length c.args.output.now / s.x.out = omega arith in
    filled_all _ c.loop-line.invariant (omega (arith, c.loop-line.invariant.kept, ap (λ (n : ℕ). n * s.x.out) i, e)) ∙ ap (tabulate _) c.requires.output_len
