-- One turn is one depth more for each output; the depths outside the range have no tap inside.
use mathlib.Core.Path.{◌≡◌}
use Prim.Native.Nat.{◌+◌}
use native.Mathlib.Nat.{zero-mul}
use native.Mathlib.Omega.{arith}
use Rattle.taps.proofs.Exact.{exactly_in}
use Rattle.places.specs.Taps.{plane_taps}
use Rattle.places.proofs.Taps.{volume_is}
use Rattle.rows.proofs.Rows.{summed_start}
use Rattle.rows.proofs.Ranges.{range_more, range_all, blocks_none}
use Rattle.convolution.specs.Inside.{channel_taps, depth_taps, first_output}
use Rattle.convolution.proofs.Inside.{depth_outside}
use Rattle.convolution.proofs.Runs.{columns_within}
use Rattle.convolution.proofs.OutputRow.add_depths.Goals as goal

pub loop-k-init : goal.loop-k-init
loop-k-init c = rw zero-mul (summed_start _ _ _)

pub overflow_add-first : goal.overflow_add-first
overflow_add-first c =
    let t = c.args.self.now in
    omega (arith, (exactly_in t.line_of.depths_are {k = t.line.depths.first + c.loop-k.k} (omega arith) (omega (arith, c.loop-k-test.true))).0, t.tensors.fitting.shape.sound.z.kernel_64)

pub overflow_cast-first : goal.overflow_cast-first
overflow_cast-first c =
    let t = c.args.self.now in
    omega (arith, (exactly_in t.line_of.depths_are {k = t.line.depths.first + c.loop-k.k} (omega arith) (omega (arith, c.loop-k-test.true))).0, t.tensors.fitting.shape.sound.z.kernel_64)

pub add_rows-requires-clause-depth_in : goal.add_rows-requires-clause-depth_in
add_rows-requires-clause-depth_in c =
    let t = c.args.self.now in
    let i = exactly_in t.line_of.depths_are {k = t.line.depths.first + c.loop-k.k} (omega arith) (omega (arith, c.loop-k-test.true)) in
    record { channel_below = c.requires.channel_in; depth_below = i.0; depth_inside = i.1 }

pub loop-k-preserved : goal.loop-k-preserved
loop-k-preserved c =
    let t = c.args.self.now in
    let s = t.tensors.shape in
    let l = c.loop-k in
    range_more (channel_taps s t.tensors.input.now t.tensors.kernel.now t.line c.args.channel (first_output c.args.c)) (plane_taps s) t.line.depths.first l.k
    l.invariant (rw l.invariant.kept at c.add_rows.ensures)

pub returns : goal.returns
returns c =
    let t = c.args.self.now in
    let s = t.tensors.shape in
    let p = first_output c.args.c in
    let e : c.loop-k.k ≡ t.line.depths.count = omega arith in
    rw (volume_is s) at (range_all (channel_taps s t.tensors.input.now t.tensors.kernel.now t.line c.args.channel p) (plane_taps s) t.line.depths.first t.line_of.depths_are
    (λ x b k l q u v. blocks_none (depth_taps s t.tensors.input.now t.tensors.kernel.now t.line c.args.channel b p x) s.y.kernel s.x.kernel
    (λ y j m n. depth_outside s t.tensors.fitting.shape _ _ t.line t.line_of c.args.channel (columns_within s.x c.args.c c.requires.columns_in l) q m n v) k u)
    (rw e at c.loop-k.invariant))
