-- One turn writes the value and the index of one output's window.
use mathlib.Core.Path.{◌≡◌, ap, ap₂, ◌∙◌}
use Prim.Native.Nat.{◌+◌, ◌*◌, ◌/◌, ◌%◌}
use native.Mathlib.Omega.{arith}
use mir.Facts.{to_z-of_z}
use mir.Syntax.{w64}
use Rattle.tensor.specs.declared.Window.TheVariants.{Empty}
use Rattle.tensor.proofs.Table.{filled_none, filled_more}
use Rattle.pooling.specs.Windows.{window_of}
use Rattle.pooling.specs.Call.{value_of, index_of}
use Rattle.pooling.specs.Steps.{plane_window}
use Rattle.pooling.proofs.Bounds.{plane_of_lem}
use Rattle.pooling.proofs.Scan.{line_window}
use Rattle.pooling.proofs.Pooling.fill_line.Goals as goal

pub overflow_mul-first : goal.overflow_mul-first
overflow_mul-first c =
    let t = c.args.self.now in
    omega (arith, plane_of_lem t.shape t.pooled c.args.line c.requires.line_in c.out_rows-rows.ensures c.input_rows.ensures)

pub loop-q-init : goal.loop-q-init
loop-q-init c = record { values_are = filled_none _ _; indices_are = filled_none _ _ }

pub scan_window-w-requires : goal.scan_window-w-requires
scan_window-w-requires c =
    let t = c.args.self.now in
    (plane_of_lem t.shape t.pooled c.args.line c.requires.line_in c.out_rows-rows.ensures c.input_rows.ensures).end

pub loop-q-preserved : goal.loop-q-preserved
loop-q-preserved c =
    let t = c.args.self.now in
    let s = t.shape in
    let l = c.loop-q in
    let w : c.scan_window-w.result ≡ window_of t.input.now s (c.args.line * s.x.out + l.q) =
    c.scan_window-w.ensures
    ∙ ap₂ (λ r h. plane_window t.input.now (c.args.line / r * h) s (c.args.line % r) l.q Empty) c.out_rows-rows.ensures c.input_rows.ensures
    ∙ line_window t.input.now s t.pooled.sound c.args.line l.q (omega arith) in
    record {
      values_are = filled_more _ l.invariant.values_are (omega arith) (c.value_of.ensures ∙ ap value_of w);
      indices_are = filled_more _ l.invariant.indices_are (omega arith)
          (to_z-of_z {w = w64} (record { sfits = c.index_of.type_inv }) ∙ c.index_of.ensures ∙ ap (index_of s.modulus) w);
    }
