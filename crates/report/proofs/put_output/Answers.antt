-- `put_output` meets its contract: the two lines, one write after another, and how long they are, the sizes being u32.
use Rattle.print.proofs.PutLaws.{put_then}
use native.Mathlib.Omega.{arith}
use Rattle.values.specs.Values.{show_field}
use Rattle.report.proofs.Lengths.{put_end, output_length}
use Rattle.report.proofs.put_output.Goals as goal

pub returns : goal.returns
unfolding show_field
returns c =
    let p = put_then c.put_number_line-next.ensures (rw c.input_list-sizes.ensures at c.put_line.ensures) in
    let o = c.well_formed.1.1.0 in
    record { put = p; upper_bound = put_end p (output_length _ c.args.o c.requires (omega (arith, o.1.1.0.1)) (omega (arith, o.1.1.1.0.1)) (omega (arith, o.1.1.1.1.0.1)) (omega (arith, o.1.1.1.1.1.0.1)) (omega (arith, o.1.1.1.1.1.1.0.1))) }
