-- By the verdict, as every convolution's call: `refused_call` and `filled_call` are the two cases.
use Rattle.std.proofs.Common.{◌≡◌, Err, rules, refl, sym, ◌∙◌}
use Rattle.layer.specs.declared.Op.TheVariants.{Convolution}
use Rattle.sums.specs.declared.Profile.TheVariants.{Running}
use Rattle.call.proofs.Outcome.{fitting, refused_call, filled_call}
use Rattle.places.specs.Places.{place_of}
use Rattle.places.proofs.Places.{in_range_lem}
use Rattle.convolution.proofs.with_running_sums.Goals as goal

pub invariant_of-tensors : goal.invariant_of-tensors
invariant_of-tensors c =
    let t = fitting Convolution refl _ _ _ _ _ (sym c.check_sum.ensures ∙ c.in_ok-shape.was) in
    record { fitting = t.0 }

pub fill-requires : goal.fill-requires
fill-requires c =
    let t = fitting Convolution refl _ _ _ _ _ (sym c.check_sum.ensures ∙ c.in_ok-shape.was) in
    record { output_len = t.1 }

pub returns-in_err-shape : goal.returns-in_err-shape
returns-in_err-shape c =
    let e : c.from_residual.result ≡ Err c.in_err-shape.field-0.0 = search rules in
    let t = refused_call Convolution refl Running place_of in_range_lem _ _ _ _ _ (sym c.check_sum.ensures ∙ c.in_err-shape.was) in
    rw e (record { answer = t.0; contents = t.1.0; whole = t.1.1.0; finite = t.1.1.1 })

pub returns : goal.returns
returns c =
    let t = filled_call Convolution refl Running place_of in_range_lem _ _ _ c.args.output.now _ _ (sym c.check_sum.ensures ∙ c.in_ok-shape.was) c.fill.ensures in
    record { answer = t.0; contents = t.1.0; whole = t.1.1.0; finite = t.1.1.1 }
