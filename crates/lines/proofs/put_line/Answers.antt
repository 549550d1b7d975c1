-- `put_line` meets its contract: the key, the value and the line end, one write after another.
use Rattle.text.specs.Lines.{show_line}
use Rattle.print.proofs.PutLaws.{put_then}
use Rattle.lines.proofs.put_line.Goals as goal

pub returns : goal.returns
unfolding show_line
returns c =
    put_then c.put_text-value.ensures (put_then c.put_value-end.ensures c.put_byte.ensures)
