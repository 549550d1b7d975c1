-- `write_lines` meets its contract: a fault, a buffer that is too short, or the sheet is put.
use mathlib.Core.Path.{sym}
use borrow.Author.Rules.{rules}
use Rattle.writer.proofs.WriteLaws.{fault_outcome, short_outcome, put_outcome}
use Rattle.writer.proofs.write_lines.Goals as goal

pub returns-in_err-fault_of : goal.returns-in_err-fault_of
returns-in_err-fault_of c =
    let r = fault_outcome c.args.layer c.args.buf.now (sym c.in_err-fault_of.ensures) in
    record { answer = search rules; contents = r.1 }

pub returns-then-buf-size : goal.returns-then-buf-size
returns-then-buf-size c =
    let r = short_outcome _ _ (sym c.in_ok-fault_of.ensures) c.put_sheet-size.ensures.next_is c.if-buf-size.true in
    record { answer = r.0; contents = r.1 }

pub returns : goal.returns
returns c =
    let r = put_outcome _ _ (sym c.in_ok-fault_of.ensures) c.put_sheet-size.ensures.next_is c.if-buf-size.false c.put_sheet.ensures in
    record { answer = r.0; contents = r.1 }
