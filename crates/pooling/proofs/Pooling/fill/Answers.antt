-- One turn writes one row more of each output.
use mathlib.Core.Path.{◌≡◌, ap, ◌∙◌}
use Prim.Native.Nat.{ℕ, ◌*◌, ◌/◌}
use native.Mathlib.Omega.{arith}
use native.Mathlib.Nat.{zero-mul}
use lib.ListN.{length}
use Rattle.tensor.specs.Table.{tabulate}
use Rattle.tensor.proofs.Table.{filled_none, filled_all}
use Rattle.tensor.proofs.Lines.{row_end, rows_end, rows_more}
use Rattle.shape.specs.Volumes.{out_rows}
use Rattle.pooling.proofs.Pooling.fill.Goals as goal

pub loop-line-init : goal.loop-line-init
loop-line-init c = record { values_are = rw zero-mul (filled_none _ _); indices_are = rw zero-mul (filled_none _ _) }

pub loop-line-preserved : goal.loop-line-preserved
loop-line-preserved c =
    let i = c.loop-line.invariant in
    let e = row_end c.loop-line.line c.args.self.now.shape.x.out (length c.args.values.now) c.loop-line-test.true in
    record {
      values_are = rows_more _ _ _ i.values_are c.fill_line.ensures.values_after (omega (arith, e, i.values_are.kept));
      indices_are = rows_more _ _ _ i.indices_are c.fill_line.ensures.indices_after (omega (arith, e, i.indices_are.kept, c.requires.values_len));
    }

pub returns-clause-values_after : goal.returns-clause-values_after
returns-clause-values_after c =
    let s = c.args.self.now.shape in
    let h = c.args.self.now.pooled.sound in
    let e = rows_end (s.n * s.channels * out_rows s) (c.requires.values_len.0 ∙ h.outputs_is) h.x.out_1 in
    let i : c.loop-line.line ≡ length c.args.values.now / s.x.out = omega arith in
    filled_all _ c.loop-line.invariant.values_are (omega (arith, c.loop-line.invariant.values_are.kept, c.requires.values_len, ap (λ (n : ℕ). n * s.x.out) i, e))
    ∙ ap (tabulate _) c.requires.values_len.0

pub returns-clause-indices_after : goal.returns-clause-indices_after
returns-clause-indices_after c =
    let s = c.args.self.now.shape in
    let h = c.args.self.now.pooled.sound in
    let e = rows_end (s.n * s.channels * out_rows s) (c.requires.values_len.0 ∙ h.outputs_is) h.x.out_1 in
    let i : c.loop-line.line ≡ length c.args.values.now / s.x.out = omega arith in
    filled_all _ c.loop-line.invariant.indices_are (omega (arith, c.loop-line.invariant.indices_are.kept, c.requires.values_len, ap (λ (n : ℕ). n * s.x.out) i, e))
    ∙ ap (tabulate _) c.requires.values_len.1
