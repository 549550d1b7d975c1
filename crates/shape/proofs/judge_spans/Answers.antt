-- `judge_spans` meets its contract: checks 6 and 7 are those of the definition, and the counts of a layer that passed check 4 are told exactly.
use Prim.Native.Nat.{ℕ, ◌*◌}
use mathlib.Core.Path.{◌≡◌, sym, ◌∙◌, ap}
use mathlib.Core.Bool.{true, false, not, ◌&&◌}
use native.Mathlib.Omega.{arith}
use borrow.Author.Tests.{leb-true}
use Rattle.layer.specs.Kinds.{is_pool}
use Rattle.layer.specs.Limits.{elements_ok}
use Rattle.counts.specs.Counts.{capped}
use Rattle.shape.specs.Counts.{output_count, shape_of}
use Rattle.shape.specs.Windows.{some_empty}
use Rattle.shape.specs.declared.Shape.{Shape}
use Rattle.shape.specs.Checks.{output_ok, windows_ok}
use Rattle.counts.proofs.Capped.{leb_capped, capped_is, volume_left}
use Rattle.shape.proofs.Limits.{counted, spans, modulus_limits}
use Rattle.shape.proofs.Steps.{after_fitted}
use Rattle.shape.proofs.judge_spans.Goals as goal
use Rattle.shape.proofs.judge_spans.Goals.{After-elements_ok, After-shape_of-s, After-volume-outputs, After-windows_ok, Else-not-elements_ok, Start, Then-not-elements_ok}

abbrev start : After-volume-outputs → Start
start c = c.before.before.before.before.before.before.before

-- the count that the code forms
count : (c : After-volume-outputs) → let a = (start c).args in c.volume-outputs.result ≡ capped (output_count a.op a.l)
count c =
    let s = start c in
    let a = s.args in
    c.volume-outputs.ensures
    ∙ ap (λ (m : ℕ). capped (m * a.z.out * a.y.out * a.x.out)) c.times-planes.ensures
    ∙ volume_left _ a.z.out a.y.out a.x.out
    ∙ (λ i. capped (a.l.n * c.output_channels-channels.ensures i * (s.requires.z_is i).out * (s.requires.y_is i).out * (s.requires.x_is i).out))

-- what check 6 finds
told : (c : After-elements_ok) → let a = (start c.before).args in c.elements_ok.result ≡ output_ok a.op a.l
unfolding output_ok
told c = c.elements_ok.ensures ∙ (ap elements_ok (count c.before) ∙ leb_capped 16777216 (omega arith) _)

over : (c : Then-not-elements_ok) → let a = (start c.before.before).args in output_ok a.op a.l ≡ false
over c = sym (told c.before) ∙ c.if-not-elements_ok.true

under : (c : Else-not-elements_ok) → let a = (start c.before.before).args in output_ok a.op a.l ≡ true
under c = sym (told c.before) ∙ c.if-not-elements_ok.false

-- the output's count is within the limit, so it is told exactly
exact : (c : Else-not-elements_ok) → let a = (start c.before.before).args in c.volume-outputs.result ≡ output_count a.op a.l
unfolding output_ok
exact c = count c.before.before ∙ capped_is _ (leb-true _ _ (under c))

-- the shape is the layer's
shaped : (c : After-shape_of-s) → let a = (start c.before.before.before).args in c.shape_of-s.result ≡ shape_of a.op a.l
shaped c =
    let v = c.before.before.before in
    let p = (start v).requires in
    simp (c.shape_of-s.ensures, exact c.before, v.output_channels-channels.ensures, p.z_is, p.y_is, p.x_is)

-- what check 7 finds
looked : (c : After-windows_ok) → let a = (start c.before.before.before.before).args in c.windows_ok.result ≡ windows_ok a.op a.l
unfolding windows_ok
looked c =
    let a = (start c.before.before.before.before).args in
    c.windows_ok.ensures ∙ ap (λ (s : Shape). not (is_pool a.op && some_empty s)) (shaped c.before)

pub returns-then-not-elements_ok : goal.returns-then-not-elements_ok
returns-then-not-elements_ok c = let s = start c.before.before in rw (after_fitted s.args.op s.args.l _ _ _ s.requires, over c)

pub shape_of-s-requires : goal.shape_of-s-requires
shape_of-s-requires c =
    let k = counted c.args.op c.args.l c.requires.passed in
    record { counts = (k.taps_max, k.input_max, k.kernel_max); modulus = (modulus_limits c.args.op c.args.l _ _ _ c.requires).1 }

pub windows_ok-requires : goal.windows_ok-requires
windows_ok-requires c =
    let s = start c.before.before.before in
    rw c.shape_of-s.ensures (spans s.args.op s.args.l _ _ _ s.requires)

pub returns-then-not-windows_ok : goal.returns-then-not-windows_ok
returns-then-not-windows_ok c =
    let s = start c.before.before.before.before.before in
    rw
    (after_fitted s.args.op s.args.l _ _ _ s.requires, under c.before.before.before, sym (looked c.before) ∙ c.if-not-windows_ok.true)

pub returns : goal.returns
returns c =
    let s = start c.before.before.before.before.before in
    simp (after_fitted s.args.op s.args.l _ _ _ s.requires, under c.before.before.before, sym (looked c.before) ∙ c.if-not-windows_ok.false, shaped c.before.before)
