-- What the checks say is the case of the definition, and a layer with an output has at most three axes.
use native.Mathlib.Omega.{arith}
use mathlib.Core.Path.{sym, ◌∙◌}
use Rattle.report.specs.Report.{sizes_report}
use Rattle.report.proofs.Lengths.{put_end, number_length, output_axes}
use Rattle.report.proofs.put_layer.Goals as goal

pub put_output-requires : goal.put_output-requires
put_output-requires c = output_axes _ _ (sym c.output_sizes.ensures ∙ c.in-Ok.is)

pub returns-in-Err : goal.returns-in-Err
unfolding sizes_report
returns-in-Err c =
    let p = c.put_number_line.ensures in
    rw (sym c.output_sizes.ensures ∙ c.in-Err.is) (record { put = rw c.number.ensures at p; upper_bound = put_end p (number_length _ (omega (arith, c.number.type_inv))) })

pub returns-in-Ok : goal.returns-in-Ok
unfolding sizes_report
returns-in-Ok c =
    rw (sym c.output_sizes.ensures ∙ c.in-Ok.is) (record { put = c.put_output.ensures.put; upper_bound = c.put_output.ensures.upper_bound })
