-- For the code: a count, held at one past the limit of 16,777,216. A count above the limit is only known to be above it.
use Rattle.std.specs.Prelude.{ℕ, min}

unfoldable pub capped : ℕ → ℕ
capped n = min n 16777217
