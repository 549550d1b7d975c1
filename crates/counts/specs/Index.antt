-- "The index is its flat place in the input modulo the product of the dimensions from `axis` on; axis runs from -R to R - 1, R being the number of axes plus 2,
-- negative ones counting from the end"
use Rattle.std.specs.Prelude.{ℕ, suc, ◌-◌, ◌*◌, cond, List, [], ◌∷◌, ℤ, pos, negsuc, drop}
use Rattle.layer.specs.Axes.{uses_y, uses_z}
use Rattle.layer.specs.Limits.{rank}

-- the input's R dimensions: "Input [N, C, Z, Y, X]"; "Two axes mean [N, C, Y, X]"; "One axis means [N, C, X]"
abbrev pub dimensions : ℕ → ℕ → ℕ → ℕ → ℕ → ℕ → List ℕ
dimensions axes n c z y x = cond (uses_z axes) (n ∷ c ∷ z ∷ y ∷ x ∷ []) (cond (uses_y axes) (n ∷ c ∷ y ∷ x ∷ []) (n ∷ c ∷ x ∷ []))

-- how many dimensions stand before `axis`, "negative ones counting from the end"; `negsuc m` is -(m + 1), so -1 is the last dimension
abbrev pub dimensions_before : ℕ → ℤ → ℕ
dimensions_before r (pos a) = a
dimensions_before r (negsuc m) = r - suc m

abbrev pub product : List ℕ → ℕ
product [] = 1
product (d ∷ ds) = d * product ds

-- "the product of the dimensions from `axis` on"
unfoldable pub modulus : ℕ → ℤ → ℕ → ℕ → ℕ → ℕ → ℕ → ℕ
modulus axes axis n c z y x = product (drop (dimensions_before (rank axes) axis) (dimensions axes n c z y x))
