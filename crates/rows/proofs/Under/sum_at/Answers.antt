-- One more tap: the value and the weight at their places, by whatever numbers the code names these.
use native.Mathlib.Omega.{arith}
use Prim.Native.Nat.{ℕ, ◌+◌, ◌*◌}
use Rattle.std.proofs.Common.{sym, ap₂, ◌∙◌}
use Rattle.tensor.specs.Table.{read}
use Rattle.sums.specs.Taps.{add_tap, pair}
use Rattle.sums.proofs.Sums.{sum_start, sum_more}
use Rattle.rows.proofs.Under.sum_at.Goals as goal

pub loop-k-init : goal.loop-k-init
loop-k-init c = sym (sum_start _ _)

pub loop-k-preserved : goal.loop-k-preserved
loop-k-preserved c =
    c.add_product-total.ensures
    ∙ ap₂ (λ (i j : ℕ). add_tap c.loop-k.total (pair (read c.args.self.now.values.now i) (read c.args.self.now.weights.now j)))
    {y = c.args.x * c.args.self.now.stride + c.loop-k.k * c.args.self.now.dilation} {v = c.loop-k.k} (grind arith) (grind arith)
    ∙ sym (rw (sum_more, ← c.loop-k.invariant))
