-- `read_digits` meets its contract. The loop's invariant: the digits passed have the value, and the rest goes on from it.
use Prim.Native.Nat.{◌≤◌}
use mathlib.Core.Path.{◌≡◌}
use lib.ListN.{drop}
use Rattle.text.specs.Numbers.{digits, in_range}
use Rattle.text.proofs.read_digits.Given as goal

abbrev pub invariant-loop-b : goal.invariant-loop-b
invariant-loop-b l = (l.value ≤ 4294967295) × (in_range (digits 0 l.t) ≡ in_range (digits l.value (drop l.b-index l.t)))
