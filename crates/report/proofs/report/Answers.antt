-- What the reader says of the first 512 bytes is the case of the definition.
use mathlib.Core.Path.{sym, ap, ◌∙◌}
use Rattle.sheet.specs.Sheet.{read_sheet}
use Rattle.report.specs.Report.{read_report}
use Rattle.report.proofs.report.Goals as goal

pub returns-in-Err : goal.returns-in-Err
unfolding read_report
returns-in-Err c =
    rw (sym (c.read_sheet.ensures ∙ ap read_sheet c.part_of.ensures) ∙ c.in-Err.is)
    (record { text = c.put_refusal.ensures.put; bound = c.put_refusal.ensures.upper_bound })

pub returns-in-Ok : goal.returns-in-Ok
unfolding read_report
returns-in-Ok c =
    rw (sym (c.read_sheet.ensures ∙ ap read_sheet c.part_of.ensures) ∙ c.in-Ok.is)
    (record { text = c.put_layer.ensures.put; bound = c.put_layer.ensures.upper_bound })
