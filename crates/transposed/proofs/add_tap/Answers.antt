-- The outputs that the tap reaches, by `tap_spread`; where it reaches none, `tap_away`.
use mathlib.Core.Path.{refl, ap, ◌∙◌}
use Prim.Native.Nat.{ℕ, ◌*◌, ◌≤◌}
use native.Mathlib.Nat.{mul-le-mul}
use native.Mathlib.Omega.{arith}
use Rattle.sizes.specs.Size.{ceil_div}
use Rattle.transposed.proofs.Lines.{both_left, tap_bounds, tap_away, tap_spread}
use Rattle.transposed.proofs.add_tap.Goals as goal

pub overflow_mul-lo : goal.overflow_mul-lo
overflow_mul-lo c =
    let x = c.args.x in
    let e = c.ceil_div-first.ensures ∙ ap (λ (n : ℕ). ceil_div n x.stride) c.saturating_sub.ensures in
    omega (arith, tap_bounds x.begin (c.args.k * x.dilation) x.stride c.requires.limits.stride_1 c.requires.limits.stride_16 c.requires.limits.begin_1024 e)

pub overflow_add-lo : goal.overflow_add-lo
overflow_add-lo c =
    let x = c.args.x in
    let e = c.ceil_div-first.ensures ∙ ap (λ (n : ℕ). ceil_div n x.stride) c.saturating_sub.ensures in
    let k : c.args.k * x.dilation ≤ 1024 = mul-le-mul {n₂ = 64} {m₂ = 16} (omega arith) (omega arith) in
    omega (arith, tap_bounds x.begin (c.args.k * x.dilation) x.stride c.requires.limits.stride_1 c.requires.limits.stride_16 c.requires.limits.begin_1024 e)

pub overflow_sub-lo : goal.overflow_sub-lo
overflow_sub-lo c =
    let x = c.args.x in
    let e = c.ceil_div-first.ensures ∙ ap (λ (n : ℕ). ceil_div n x.stride) c.saturating_sub.ensures in
    (tap_bounds x.begin (c.args.k * x.dilation) x.stride c.requires.limits.stride_1 c.requires.limits.stride_16 c.requires.limits.begin_1024 e).covers

pub returns-then-row-first : goal.returns-then-row-first
returns-then-row-first c =
    let a = c.args in
    let e = c.ceil_div-first.ensures ∙ ap (λ (n : ℕ). ceil_div n a.x.stride) c.saturating_sub.ensures in
    tap_away a.row.now a.weights.now a.x.begin a.x.dilation a.x.stride a.k c.requires.limits.stride_1 e refl c.if-row-first.true

pub returns : goal.returns
returns c =
    let a = c.args in
    let e = c.ceil_div-first.ensures ∙ ap (λ (n : ℕ). ceil_div n a.x.stride) c.saturating_sub.ensures in
    let p = both_left _ _ _ _ c.if-row-first.false in
    tap_spread a.row.now a.weights.now a.x.begin a.x.dilation a.x.stride a.k c.requires.limits.stride_1 e refl p.1 c.add_spread.ensures
