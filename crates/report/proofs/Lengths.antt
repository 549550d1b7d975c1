-- How long a report is: a line is its key, its numbers and the line end, and a number has at most ten digits.
use Prim.Native.Nat.{ℕ, ◌≤◌}
use mathlib.Core.Path.{◌≡◌, refl, ap}
use mathlib.Core.Bool.{false≢true}
use mathlib.Core.List.{List, ◌++◌}
use native.Mathlib.Omega.{arith}
use lib.ListN.{length, length-append}
use Rattle.text.specs.Texts.{text}
use Rattle.text.specs.Numbers.{decimal}
use Rattle.text.specs.Lists.{show_numbers}
use Rattle.text.proofs.NumberLaws.{decimal_10, decimal_small}
use Rattle.text.proofs.ListLaws.{numbers_length}
use Rattle.text.proofs.LineLaws.{line_length}
use Rattle.print.specs.Put.{Put}
use Rattle.fields.specs.Layers.{input_numbers, input_list}
use Rattle.fields.proofs.Fits.{U32}
use Rattle.fields.proofs.LayerLaws.{input_range}
use Rattle.layer.specs.declared.Layer.{Layer}
use Rattle.shape.specs.declared.Shape.{Shape}
use Rattle.std.specs.Prelude.{Result, Ok, Err}
use Rattle.layer.specs.declared.Refusal.{Refusal}
use Rattle.shape.specs.Judge.{judged}
use Rattle.shape.proofs.Accepted.{axes_most}
use Rattle.report.specs.declared.Output.{Output}
use Rattle.report.specs.Output.{output_in, output_of}
use Rattle.report.specs.Report.{answer_line, line_line, output_line}

-- what is put from the start of a buffer ends no later than its length says
pub put_end : {before left : List ℕ} {xs : List ℕ} {next : ℕ} → Put before 0 xs next left → length xs ≤ 80 → next ≤ 80
put_end p h = omega (arith, p.next_is, h)

-- "answer=" and "line="
pub refusal_length : (number line : ℕ) → U32 number → U32 line → length (answer_line number ++ line_line line) ≤ 80
refusal_length number line h k =
    rw (length-append (answer_line number) (line_line line))
    (omega
    (arith, line_length (text "answer=") (decimal number), line_length (text "line=") (decimal line), decimal_10 number h, decimal_10 line k))

pub number_length : (number : ℕ) → U32 number → length (answer_line number) ≤ 80
number_length number h = omega (arith, line_length (text "answer=") (decimal number), decimal_10 number h)

-- "answer=0" and "output=" with three to five numbers
pub output_length : (axes : ℕ) (o : Output) → axes ≤ 3 → U32 o.n → U32 o.c → U32 o.z → U32 o.y → U32 o.x
    → length (answer_line 0 ++ output_line axes o) ≤ 80
output_length axes o h hn hc hz hy hx =
    let f = input_list axes o.n o.c o.z o.y o.x in
    let digit : length (decimal 0) ≡ 1 = ap length (decimal_small 0 (omega arith)) in
    rw (length-append (answer_line 0) (output_line axes o))
    (omega
    (arith, h, line_length (text "answer=") (decimal 0), digit, line_length (text "output=") (show_numbers (input_numbers axes) f), numbers_length (input_numbers axes) f (input_range axes o.n o.c o.z o.y o.x hn hc hz hy hx)))

-- a layer with an output has at most three axes
pub output_axes : (l : Layer) (o : Output) → output_of l ≡ Ok o → l.axes ≤ 3
unfolding output_of
output_axes l o e = go (judged l.op l) (λ s q. axes_most l.op l s q) e
  where
    go : (j : Result Shape Refusal) → ((s : Shape) → j ≡ Ok s → l.axes ≤ 3) → output_in j ≡ Ok o → l.axes ≤ 3
    go (Ok s) h q = h s refl
    go (Err n) h q = absurd (false≢true cc)
