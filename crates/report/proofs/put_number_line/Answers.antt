-- `put_number_line` meets its contract: a list of one number is the number.
use Rattle.print.proofs.PutLaws.{show_1}
use Rattle.values.specs.Values.{show_field}
use Rattle.report.proofs.put_number_line.Goals as goal

pub returns : goal.returns
unfolding show_field
returns c = rw (c.one_item.ensures, show_1 _) at c.put_line.ensures
