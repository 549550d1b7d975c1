-- What the reader says of the sheet is the case.
use mathlib.Core.Path.{sym}
use Rattle.kozamyure.proofs.Rewritten.{not_rewritten, sheet_rewritten}
use Rattle.kozamyure.proofs.koza_rewrite.Goals as goal

pub returns-in-Err : goal.returns-in-Err
returns-in-Err c =
    let r = not_rewritten c.args.sheet.now c.args.buffer.now _ (sym c.in-Err.ensures) in
    record { answer = rw c.from-in-Err.ensures r.0; contents = r.1.0; back = rw c.from-in-Err.ensures r.1.1 }

pub returns-in-Ok : goal.returns-in-Ok
returns-in-Ok c =
    let w = c.write_sheet.ensures in
    let r = sheet_rewritten c.args.sheet.now c.args.buffer.now _ _ _ (sym c.in-Ok.ensures) w.answer w.contents in
    record { answer = rw c.from.ensures r.0; contents = r.1.0; back = rw c.from.ensures r.1.1 }
