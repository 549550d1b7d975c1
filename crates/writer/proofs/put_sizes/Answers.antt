-- `put_sizes` meets its contract: one line after another.
use mathlib.Core.Path.{◌≡◌}
use mathlib.Core.List.{append-nil}
use borrow.Author.Rules.{rules}
use Rattle.lines.specs.Form.{show_form}
use Rattle.fields.specs.Sheet.{sheet_values}
use Rattle.print.proofs.PutLaws.{put_then}
use Rattle.writer.proofs.put_sizes.Goals as goal

pub returns : goal.returns
unfolding show_form sheet_values
returns c =
    let l = c.args.l.now in
    let strides = c.put_axes-at5.ensures in
    let strides_on : (strides.0 ≡ l.z.stride) × (strides.1 ≡ l.y.stride) × (strides.2 ≡ l.x.stride) = search rules in
    let dilations = c.put_axes.ensures in
    let dilations_on : (dilations.0 ≡ l.z.dilation) × (dilations.1 ≡ l.y.dilation) × (dilations.2 ≡ l.x.dilation) = search rules in
    put_then (rw (c.kernel_list.ensures, c.kernel_numbers.ensures) at c.put_line-at4.ensures)
    (put_then (rw (strides_on.0, strides_on.1, strides_on.2) at strides.6) (rw (append-nil _) (rw (dilations_on.0, dilations_on.1, dilations_on.2) at dilations.6)))
