-- Laws of the modulus of an index: the product of the last of five dimensions, and its bounds.
use mathlib.Core.Path.{◌≡◌, sym, ap, ◌∙◌}
use mathlib.Core.Bool.{Bool, true, false, cond}
use mathlib.Core.List.{List, [], ◌∷◌}
use Prim.Native.Nat.{ℕ, zero, suc, ◌*◌, ◌≤◌}
use native.Mathlib.Nat.{mul-one, one-mul, mul_assoc, mul_comm, one-le-mul, le-mul_of_pos_right, mul-le-mul_right, le_trans}
use native.Mathlib.Omega.{arith}
use lib.ListN.{drop}
use lib.IntN.{ℤ}
use Rattle.layer.specs.Axes.{uses_y, uses_z}
use Rattle.layer.specs.Limits.{rank}
use Rattle.counts.specs.Index.{dimensions, dimensions_before, product, modulus}
use Rattle.counts.specs.Counts.{capped}
use Rattle.counts.proofs.Capped.{capped_left}
use Rattle.std.specs.List.{fold}

-- the product of a list, from the first on and held at the cap
fold_from : (a : ℕ) (ds : List ℕ) → fold (λ p d. capped (p * d)) (capped a) ds ≡ capped (a * product ds)
fold_from a [] = ap capped (sym (mul-one a))
fold_from a (d ∷ ds) = ap (λ (n : ℕ). fold (λ p d. capped (p * d)) n ds) (capped_left a d) ∙ fold_from (a * d) ds ∙ ap capped (mul_assoc a d (product ds))

pub fold_capped : (ds : List ℕ) → fold (λ p d. capped (p * d)) 1 ds ≡ capped (product ds)
unfolding capped
fold_capped ds = fold_from 1 ds ∙ ap capped (one-mul (product ds))

-- ---- without its first k, a list of dimensions of at least 1 has a product from 1 up to that of all
abbrev AllPos : List ℕ → Type 0
AllPos [] = Unit {0}
AllPos (d ∷ ds) = (1 ≤ d) × AllPos ds

product_1 : (ds : List ℕ) → AllPos ds → 1 ≤ product ds
product_1 [] h = omega arith
product_1 (d ∷ ds) h = one-le-mul h.0 (product_1 ds h.1)

product_within : (k : ℕ) (ds : List ℕ) → AllPos ds → (1 ≤ product (drop k ds)) × (product (drop k ds) ≤ product ds)
product_within zero ds h = (product_1 ds h, omega arith)
product_within (suc k) [] h = (omega arith, omega arith)
product_within (suc k) (d ∷ ds) h =
    let u = product_within k ds h.1 in
    let g : product ds ≤ d * product ds = rw (mul_comm d (product ds)) (le-mul_of_pos_right (product ds) h.0) in
    (u.0, le_trans u.1 g)

five_is : (a b c d e : ℕ) → product (a ∷ b ∷ c ∷ d ∷ e ∷ []) ≡ a * b * c * d * e
five_is a b c d e = simp (mul-one, mul_assoc)

-- ---- the modulus of an input of n·c·z·y·x elements, each at least 1

module _ (n c z y x : ℕ) (hn : 1 ≤ n) (hc : 1 ≤ c) (hz : 1 ≤ z) (hy : 1 ≤ y) (hx : 1 ≤ x) where
  abbrev of : Bool → Bool → List ℕ
  of three two = cond three (n ∷ c ∷ z ∷ y ∷ x ∷ []) (cond two (n ∷ c ∷ y ∷ x ∷ []) (n ∷ c ∷ x ∷ []))

  rows : n * c * y ≤ n * c * z * y
  rows = mul-le-mul_right y (le-mul_of_pos_right (n * c) hz)

  of_dimensions : (three two : Bool) → AllPos (of three two) × (product (of three two) ≤ n * c * z * y * x)
  of_dimensions true two = ((hn, (hc, (hz, (hy, (hx, tt))))), rw (five_is n c z y x) (omega arith))
  of_dimensions false true = ((hn, (hc, (hy, (hx, tt)))), rw (five_is n c y x 1, mul-one) (mul-le-mul_right x rows))
  of_dimensions false false =
      ((hn, (hc, (hx, tt))), rw (five_is n c x 1 1, mul-one (n * c * x * 1), mul-one (n * c * x)) (mul-le-mul_right x (le_trans (le-mul_of_pos_right (n * c) hy) rows)))

  pub modulus_within : (axes : ℕ) (axis : ℤ) → (1 ≤ modulus axes axis n c z y x) × (modulus axes axis n c z y x ≤ n * c * z * y * x)
  unfolding modulus
  modulus_within axes axis =
      let u = of_dimensions (uses_z axes) (uses_y axes) in
      let v = product_within (dimensions_before (rank axes) axis) (dimensions axes n c z y x) u.0 in
      (v.0, le_trans v.1 u.1)
