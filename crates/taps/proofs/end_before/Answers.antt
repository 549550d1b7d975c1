-- The steps that the last tap is before the limit, or the position after p.
use mathlib.Core.Path.{◌≡◌, ap, ◌∙◌}
use Prim.Native.Nat.{ℕ, ◌-◌, ◌*◌}
use Rattle.sizes.specs.Size.{ceil_div}
use Rattle.taps.proofs.Exact.{before_most}
use Rattle.taps.proofs.end_before.Goals as goal
use Rattle.taps.proofs.end_before.Goals.{After-ceil_div-end}

-- what is counted
counted : (c : After-ceil_div-end) → let a = c.args in c.ceil_div-end.result ≡ ceil_div (a.limit - (a.s.kernel - 1) * a.s.dilation) a.s.stride
counted c =
    c.ceil_div-end.ensures ∙ ap (λ (n : ℕ). ceil_div n c.args.s.stride) (c.saturating_sub.ensures ∙ ap (λ (n : ℕ). c.args.limit - n) c.reach.ensures)

pub returns : goal.returns
returns c = rw c.max.ensures (before_most c.args.s c.requires (counted c.before))
