-- `write_sheet` meets its contract: the way back follows from the two equations, the record's numbers being u32, as owning it tells.
use borrow.Author.Rules.{rules}
use Rattle.fields.proofs.Fits.{LayerFits, axis_fits_lem}
use Rattle.sheet.proofs.WayBack.{way_back}
use Rattle.sheet.proofs.write_sheet.Goals as goal

pub returns : goal.returns
returns c =
    let l = c.well_formed.0 in
    let fits : LayerFits c.args.layer = record {
      n = search rules;
      c = search rules;
      g = search rules;
      o = search rules;
      i = search rules;
      z = axis_fits_lem _ _ l.1.1.1.1.1.1.1.1.1.1.0;
      y = axis_fits_lem _ _ l.1.1.1.1.1.1.1.1.1.1.1.0;
      x = axis_fits_lem _ _ l.1.1.1.1.1.1.1.1.1.1.1.1.0;
    } in
    let w = c.write_lines.ensures in
    record { answer = w.answer; contents = w.contents; back = way_back _ fits c.args.buf.now _ _ w.answer w.contents }
