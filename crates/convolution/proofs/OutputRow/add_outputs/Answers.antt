-- One turn is a part of the row more.
use native.Mathlib.Omega.{arith}
use Rattle.convolution.proofs.RowTaps.{line_part}
use Rattle.convolution.proofs.OutputRow.add_outputs.Goals as goal

pub loop-p-preserved : goal.loop-p-preserved
loop-p-preserved c =
    let t = c.args.self.now in
    let r = c.part_from-part.ensures in
    record {
      within = omega (arith, r.most, c.requires.out_len);
      summed = line_part t.tensors.shape _ _ t.line.number c.loop-p.p c.part_from-part.result.end r.from (omega (arith, r.some)) (omega (arith, r.most, c.requires.out_len))
          c.loop-p.invariant.summed c.add_part.ensures;
    }
