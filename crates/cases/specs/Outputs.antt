-- What a test case says of an output.
use Rattle.std.specs.Prelude.{ℕ, Bool, ◌&&◌, List, Option, Some, None, if◌then◌else◌}
use Rattle.std.specs.List.{list_all}
use Rattle.std.specs.Float.{Float, binary32, float_zero, fract, float_to_unsigned}
use Rattle.std.specs.Int.{w64}
use Rattle.std.specs.Float.Ieee.{eq, le, lt}
use Rattle.cases.specs.declared.outputs.TheConstants.{LIMIT}

-- the whole number below 2^41 that a value is
abbrev pub whole_number : Float → Option ℕ
whole_number value =
    if le float_zero value && lt value LIMIT && eq (fract binary32 value) float_zero then Some (float_to_unsigned w64 value) else None

-- each element is the mark
abbrev pub is_kept : {X : Type 0} → (X → X → Bool) → X → List X → Bool
is_kept same mark = list_all (λ x. same x mark)
