-- The writer's answer, and what it leaves in the buffer.
use Rattle.std.specs.Prelude.{ℕ, List, ◌++◌, cond, leb, length, drop, Result, Ok, Err}
use Rattle.layer.specs.declared.Layer.{Layer}
use Rattle.layer.specs.declared.SheetError.{SheetError}
use Rattle.layer.specs.declared.SheetError.TheVariants.{Room}
use Rattle.layer.specs.declared.SheetRefusal.{SheetRefusal}
use Rattle.fields.specs.Sheet.{show_sheet}
use Rattle.faults.specs.Faults.{fault_of}

-- a write tells the sheet's length
abbrev pub written : ℕ → Result ℕ SheetRefusal
written n = Ok n

-- a refused write tells no length, which across C's boundary is 0: "a refused write tells length 0". "A tensor, place, number of bad elements or line that a
-- number doesn't use is 0"
abbrev pub not_written : SheetError → ℕ → Result ℕ SheetRefusal
not_written error line = Err (record { error = error; line = line })

-- "last, 24 if the buffer is shorter than the sheet, line 0"
unfoldable pub answer : Result (Unit {0}) SheetRefusal → Layer → ℕ → Result ℕ SheetRefusal
answer (Err refusal) l room = Err refusal
answer (Ok t) l room = cond (leb (length (show_sheet l)) room) (written (length (show_sheet l))) (not_written Room 0)

-- what writing a layer answers, for a buffer of so many bytes
unfoldable pub write_sheet : Layer → ℕ → Result ℕ SheetRefusal
write_sheet l room = answer (fault_of l) l room

-- "Otherwise it writes from the start, tells the sheet's length and touches nothing beyond." A refused write: "Any number but 0 leaves all lent
-- memory at its entry contents."
unfoldable pub leave : Result (Unit {0}) SheetRefusal → Layer → List ℕ → List ℕ
leave (Err refusal) l buffer = buffer
leave (Ok t) l buffer = cond (leb (length (show_sheet l)) (length buffer)) (show_sheet l ++ drop (length (show_sheet l)) buffer) buffer

-- what the buffer holds after the write
unfoldable pub buffer_after : Layer → List ℕ → List ℕ
buffer_after l buffer = leave (fault_of l) l buffer
