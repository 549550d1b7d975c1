-- Without a depth or a row inside the input no tap lies inside.
use mathlib.Core.Path.{◌≡◌}
use native.Mathlib.Omega.{arith}
use Rattle.taps.proofs.Exact.{exactly_none}
use Rattle.convolution.proofs.Inside.{depth_outside, row_outside, line_away}
use Rattle.convolution.proofs.OutputRow.add_line.Goals as goal

pub returns-then-self-eq0 : goal.returns-then-self-eq0
returns-then-self-eq0 c =
    let t = c.args.self.now in
    let e : t.line.depths.count ≡ 0 = c.if-self-eq0.true in
    line_away t.tensors.shape t.tensors.fitting.shape _ _ t.line.number 0 (λ x i d b k u ld lb lk.
    depth_outside t.tensors.shape t.tensors.fitting.shape _ _ t.line t.line_of i (omega (arith, c.requires.out_len)) ld lb lk (exactly_none (rw e at t.line_of.depths_are) ld))

pub returns-then-self-eq0-2 : goal.returns-then-self-eq0-2
returns-then-self-eq0-2 c =
    let t = c.args.self.now in
    let e : t.line.rows.count ≡ 0 = c.if-self-eq0-2.true in
    line_away t.tensors.shape t.tensors.fitting.shape _ _ t.line.number 0 (λ x i d b k u ld lb lk.
    row_outside t.tensors.shape t.tensors.fitting.shape _ _ t.line t.line_of i (omega (arith, c.requires.out_len)) ld lb lk (exactly_none (rw e at t.line_of.rows_are) lb))
