-- Places of a tensor: "Row-major, last axis fastest. Input [N, C, Z, Y, X]"
use Rattle.std.specs.Prelude.{ℕ, ◌+◌, ◌*◌}

-- the flat place of an image, a channel, a depth, a row and a column in a tensor with c channels of z depths, y rows and x columns
abbrev pub flat_place : ℕ → ℕ → ℕ → ℕ → ℕ → ℕ → ℕ → ℕ → ℕ → ℕ
flat_place c z y x image channel depth row column = (((image * c + channel) * z + depth) * y + row) * x + column
