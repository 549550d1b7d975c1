-- What document 01's program prints: "Program: judges the first 512 bytes of standard input as a sheet, makes checks 1 to 7 and prints `answer=0` and
-- `output=1,2,2,2` (two lines, for the sheet above), with three axes `output=N,C,Z,Y,X`; else `answer=` with the number, and for 20 to 23 a second line
-- `line=`"
use Rattle.std.specs.Prelude.{ℕ, List, ◌++◌, take, Result, Ok, Err}
use Rattle.text.specs.Texts.{text}
use Rattle.text.specs.Numbers.{decimal}
use Rattle.text.specs.Lists.{show_numbers}
use Rattle.text.specs.Lines.{show_line}
use Rattle.layer.specs.Refusals.{refusal_number, sheet_number}
use Rattle.layer.specs.declared.Layer.{Layer}
use Rattle.layer.specs.declared.Refusal.{Refusal}
use Rattle.layer.specs.declared.SheetRefusal.{SheetRefusal}
use Rattle.fields.specs.Layers.{input_numbers, input_list}
use Rattle.sheet.specs.Sheet.{read_sheet}
use Rattle.report.specs.declared.Output.{Output}
use Rattle.report.specs.Output.{output_of}

abbrev pub answer_line : ℕ → List ℕ
answer_line number = show_line (text "answer=") (decimal number)

abbrev pub line_line : ℕ → List ℕ
line_line line = show_line (text "line=") (decimal line)

-- the output's sizes, N, channels, Z, Y, X; with two axes N, channels, Y, X, with one N, channels, X
abbrev pub output_line : ℕ → Output → List ℕ
output_line axes o = show_line (text "output=") (show_numbers (input_numbers axes) (input_list axes o.n o.c o.z o.y o.x))

unfoldable pub sizes_report : ℕ → Result Output Refusal → List ℕ
sizes_report axes (Ok o) = answer_line 0 ++ output_line axes o
sizes_report axes (Err e) = answer_line (refusal_number e)

unfoldable pub read_report : Result Layer SheetRefusal → List ℕ
read_report (Ok l) = sizes_report l.axes (output_of l)
read_report (Err r) = answer_line (sheet_number r.error) ++ line_line r.line

-- "judges the first 512 bytes of standard input as a sheet"
abbrev pub report_of : List ℕ → List ℕ
report_of input = read_report (read_sheet (take 512 input))
