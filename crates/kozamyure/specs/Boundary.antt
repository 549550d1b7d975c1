-- The C boundary. Each call takes the text of a sheet: a sheet that is not read is refused with its number, 20 to 23, and its line; else the answer is that of
-- the function on the layer that the sheet says. "A tensor, place, number of bad elements or line that a number doesn't use is 0"
use Rattle.std.specs.Prelude.{ℕ, ◌+◌, ◌*◌, List, ℤ, Float, Result, Ok, Err, ⊤}
use Rattle.layer.specs.declared.Op.{Op}
use Rattle.layer.specs.declared.Op.TheVariants.{Convolution, Transposed, MaxPool}
use Rattle.layer.specs.declared.Layer.{Layer}
use Rattle.layer.specs.declared.Refusal.{Refusal}
use Rattle.shape.specs.declared.Shape.{Shape}
use Rattle.shape.specs.Judge.{judged}
use Rattle.tensor.specs.declared.Part.{Part}
use Rattle.tensor.specs.declared.Peak.{Peak}
use Rattle.tensor.specs.Table.{plus_zero}
use Rattle.sums.specs.declared.Profile.{Profile}
use Rattle.sums.specs.Taps.{Place}
use Rattle.call.specs.Call.{answer_of, contents_of}
use Rattle.pooling.specs.Call.{max_pool_answer, max_pool_values, max_pool_indices}
use Rattle.writer.specs.Writer.{write_sheet, buffer_after}
use Rattle.layer.specs.declared.SheetRefusal.{SheetRefusal}
use Rattle.layer.specs.Refusals.{refusal_number, refusal_tells, number_of, tells, sheet_number}
use Rattle.report.specs.declared.Output.{Output}
use Rattle.report.specs.Output.{output_of}
use Rattle.kozamyure.specs.declared.CallAnswer.{CallAnswer}
use Rattle.kozamyure.specs.declared.ShapeAnswer.{ShapeAnswer}
use Rattle.kozamyure.specs.declared.LengthsAnswer.{LengthsAnswer}
use Rattle.kozamyure.specs.declared.PlanePart.{PlanePart}
use Rattle.kozamyure.specs.declared.PeakFound.{PeakFound}
use Rattle.kozamyure.specs.declared.SheetWritten.{SheetWritten}

-- ---- the operators

-- "A refused read hands over the number and line and no record": a sheet that is not read
abbrev pub unread : SheetRefusal → CallAnswer
unread r = record { number = sheet_number r.error; line = r.line; tensor = 0; place = 0; bad = 0 }

-- an operator's own answer: "When an answer is an enum, the promises use a definition that gives this paper's number and values for each case."
abbrev pub answered : Result ⊤ Refusal → CallAnswer
answered a = record { number = number_of a; line = 0; tensor = (tells a).0; place = (tells a).1; bad = (tells a).2 }

unfoldable pub call_answer : Op → Result Layer SheetRefusal → List Float → List Float → ℕ → CallAnswer
call_answer op (Ok l) input kernel output = answered (answer_of op l input kernel output)
call_answer op (Err r) input kernel output = unread r

-- "Any number but 0 leaves all lent memory at its entry contents."
unfoldable pub call_contents : Op → Profile → (Shape → ℕ → ℕ → Place) → Result Layer SheetRefusal → List Float → List Float → List Float → List Float
call_contents op profile place (Ok l) input kernel before = contents_of op profile place l input kernel before
call_contents op profile place (Err r) input kernel before = before

unfoldable pub pool_answer : Result Layer SheetRefusal → List Float → List Float → List ℤ → CallAnswer
pool_answer (Ok l) input values indices = answered (max_pool_answer l input values indices)
pool_answer (Err r) input values indices = unread r

unfoldable pub pool_values : Result Layer SheetRefusal → List Float → List Float → List ℤ → List Float
pool_values (Ok l) input values indices = max_pool_values l input values indices
pool_values (Err r) input values indices = values

unfoldable pub pool_indices : Result Layer SheetRefusal → List Float → List Float → List ℤ → List ℤ
pool_indices (Ok l) input values indices = max_pool_indices l input values indices
pool_indices (Err r) input values indices = indices

-- ---- the output's sizes, by checks 1 to 7 of the sheet's own operator

abbrev pub no_shape : ℕ → ℕ → ShapeAnswer
no_shape number line = record { number = number; line = line; axes = 0; n = 0; c = 0; z = 0; y = 0; x = 0 }

abbrev pub sizes_shape : ℕ → Result Output Refusal → ShapeAnswer
sizes_shape axes (Ok o) = record { number = 0; line = 0; axes = axes; n = o.n; c = o.c; z = o.z; y = o.y; x = o.x }
sizes_shape axes (Err e) = no_shape (refusal_number e) 0

unfoldable pub shape_answer : Result Layer SheetRefusal → ShapeAnswer
shape_answer (Ok l) = sizes_shape l.axes (output_of l)
shape_answer (Err r) = no_shape (sheet_number r.error) r.line

-- ---- the lengths of the slices that the sheet's own operator takes, by its checks 1 to 7

abbrev pub no_lengths : ℕ → ℕ → LengthsAnswer
no_lengths number line = record { number = number; line = line; input = 0; kernel = 0; output = 0 }

-- pooling takes no kernel
abbrev pub kernel_length : Op → ℕ → ℕ
kernel_length Convolution weights = weights
kernel_length Transposed weights = weights
kernel_length MaxPool weights = 0

-- the counts that number 8 goes by: "a lent slice whose length is not exactly its element count"
abbrev pub lengths_in : Op → Result Shape Refusal → LengthsAnswer
lengths_in op (Ok s) = record { number = 0; line = 0; input = s.inputs; kernel = kernel_length op s.weights; output = s.outputs }
lengths_in op (Err e) = no_lengths (refusal_number e) 0

unfoldable pub lengths_answer : Result Layer SheetRefusal → LengthsAnswer
lengths_answer (Ok l) = lengths_in l.op (judged l.op l)
lengths_answer (Err r) = no_lengths (sheet_number r.error) r.line

-- ---- the plane picker: the part of the caller's own slice

abbrev pub plane_part : Part → PlanePart
plane_part p = record { start = p.start; length = p.length }

-- ---- the peak finder

-- a refusal: "The record is then zeros."
abbrev pub peak_found : Result Peak Refusal → PeakFound
peak_found (Ok k) = record { number = 0; place = 0; bad = 0; value = k.value; row = k.row; column = k.column }
peak_found (Err e) = record { number = refusal_number e; place = (refusal_tells e).1; bad = (refusal_tells e).2; value = plus_zero; row = 0; column = 0 }

-- ---- a sheet read and written back

-- "a refused write tells length 0"
abbrev pub written_back : Result ℕ SheetRefusal → SheetWritten
written_back (Ok n) = record { number = 0; line = 0; length = n }
written_back (Err refusal) = record { number = sheet_number refusal.error; line = refusal.line; length = 0 }

-- a sheet that is not read tells length 0 too
unfoldable pub rewrite_answer : Result Layer SheetRefusal → ℕ → SheetWritten
rewrite_answer (Ok l) room = written_back (write_sheet l room)
rewrite_answer (Err r) room = written_back (Err r)

unfoldable pub rewrite_buffer : Result Layer SheetRefusal → List ℕ → List ℕ
rewrite_buffer (Ok l) buffer = buffer_after l buffer
rewrite_buffer (Err r) buffer = buffer

-- ---- the version of the library, 2.2.0

abbrev pub version : ℕ
version = 2 * 10000 + 2 * 100 + 0
