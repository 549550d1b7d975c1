-- Which spatial axes a layer has: X always, Y with two axes and more, Z with three.
use Rattle.std.specs.Prelude.{ℕ, Bool, leb}
use Rattle.layer.specs.Limits.{within}

-- "one, two or three spatial axes"
abbrev pub axes_in : ℕ → Bool
axes_in axes = within 1 3 axes

-- "One axis means [N, C, X] and a kernel without KZ and KY"
abbrev pub uses_y : ℕ → Bool
uses_y axes = leb 2 axes

-- "Two axes mean [N, C, Y, X] and a kernel without KZ"
abbrev pub uses_z : ℕ → Bool
uses_z axes = leb 3 axes
