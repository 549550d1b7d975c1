-- The index of a pooled element in a batch and in the call on its image alone. With the images' dimension before `axis` both are counted modulo the same product,
-- which divides an image's elements; else the batch counts all of its elements and the call alone all of the image's.
use mathlib.Core.Path.{◌≡◌, refl, sym, ap, ◌∙◌}
use mathlib.Core.Bool.{Bool, true, false, cond}
use mathlib.Core.List.{List, [], ◌∷◌}
use Prim.Native.Nat.{ℕ, zero, suc, ◌+◌, ◌*◌, ◌%◌, ◌≤◌, ◌<◌}
use native.Mathlib.Nat.{one-mul, mul-one, mul_assoc, mul-add-mod_self_right, mod-eq_of_lt, not-suc-le-zero}
use native.Mathlib.Omega.{arith}
use lib.IntN.{ℤ, pos, negsuc}
use lib.ListN.{drop}
use Rattle.layer.specs.Axes.{uses_y, uses_z}
use Rattle.layer.specs.Limits.{rank}
use Rattle.layer.proofs.Places.{place_within}
use Rattle.counts.specs.Index.{dimensions, dimensions_before, product, modulus}
use Rattle.images.specs.Calls.{LaterAxis, FirstAxis}

-- ---- how many dimensions stand before an axis
pub later_axis : (r : ℕ) (axis : ℤ) → LaterAxis r axis → 1 ≤ dimensions_before r axis
later_axis r (pos a) h = h
later_axis r (negsuc m) h = omega arith

pub first_axis : (r : ℕ) (axis : ℤ) → FirstAxis r axis → dimensions_before r axis ≡ 0
first_axis r (pos a) h = h
first_axis r (negsuc m) h = omega arith

-- ---- products of dimensions

-- a is so many times b
pub record Multiple (a b : ℕ) : Type 0 where
  pub times : ℕ
  pub is : a ≡ times * b

-- without its first k, a list of dimensions has a product that divides that of all
product_divides : (k : ℕ) (ds : List ℕ) → Multiple (product ds) (product (drop k ds))
product_divides zero ds = record { times = 1; is = sym (one-mul (product ds)) }
product_divides (suc k) [] = record { times = 1; is = refl }
product_divides (suc k) (d ∷ ds) =
    let m = product_divides k ds in
    record { times = d * m.times; is = ap (λ (p : ℕ). d * p) m.is ∙ sym (mul_assoc d m.times (product (drop k ds))) }

-- ---- the dimensions of an input but N
abbrev others : Bool → Bool → ℕ → ℕ → ℕ → ℕ → List ℕ
others three two c z y x = cond three (c ∷ z ∷ y ∷ x ∷ []) (cond two (c ∷ y ∷ x ∷ []) (c ∷ x ∷ []))

module _ (axes : ℕ) (axis : ℤ) (c z y x : ℕ) where
  first_of : (three two : Bool) (n : ℕ) → cond three (n ∷ c ∷ z ∷ y ∷ x ∷ []) (cond two (n ∷ c ∷ y ∷ x ∷ []) (n ∷ c ∷ x ∷ [])) ≡ n ∷ others three two c z y x
  first_of true two n = refl
  first_of false true n = refl
  first_of false false n = refl

  abbrev rest : List ℕ
  rest = others (uses_z axes) (uses_y axes) c z y x

  dimensions_are : (n : ℕ) → dimensions axes n c z y x ≡ n ∷ rest
  dimensions_are = first_of (uses_z axes) (uses_y axes)

  -- N before the axis
  behind : (k : ℕ) → dimensions_before (rank axes) axis ≡ suc k → (n : ℕ) → modulus axes axis n c z y x ≡ product (drop k rest)
  unfolding modulus
  behind k e n = rw (e, dimensions_are n)

  -- N after it
  ahead : dimensions_before (rank axes) axis ≡ 0 → (n : ℕ) → modulus axes axis n c z y x ≡ n * product rest
  unfolding modulus
  ahead e n = rw (e, dimensions_are n)

  -- an axis that is not used has size 1
  module _ (hz : uses_z axes ≡ false → z ≡ 1) (hy : uses_y axes ≡ false → y ≡ 1) where
    product_of : (three two : Bool) → (three ≡ false → z ≡ 1) → (two ≡ false → y ≡ 1) → product (others three two c z y x) ≡ c * z * y * x
    product_of true two f g = simp (mul-one, mul_assoc)
    product_of false true f g = rw (f refl) (simp (mul-one, mul_assoc))
    product_of false false f g = rw (f refl, g refl) (simp (mul-one, mul_assoc))

    size_is : product rest ≡ c * z * y * x
    size_is = product_of (uses_z axes) (uses_y axes) hz hy

    pub modulus_behind : 1 ≤ dimensions_before (rank axes) axis → (n m p q : ℕ) → (p * (c * z * y * x) + q) % modulus axes axis n c z y x ≡ q % modulus axes axis m c z y x
    modulus_behind h n m p q = go (dimensions_before (rank axes) axis) refl h
      where
        go : (k : ℕ) → dimensions_before (rank axes) axis ≡ k → 1 ≤ k → (p * (c * z * y * x) + q) % modulus axes axis n c z y x ≡ q % modulus axes axis m c z y x
        go zero e l = absurd (not-suc-le-zero l)
        go (suc k) e l =
            let d = product_divides k rest in
            let f : p * (c * z * y * x) + q ≡ p * d.times * product (drop k rest) + q =
            ap (λ (s : ℕ). p * s + q) (sym size_is ∙ d.is) ∙ ap (λ (s : ℕ). s + q) (sym (mul_assoc p d.times (product (drop k rest)))) in
            rw (behind k e n, behind k e m, f) (mul-add-mod_self_right (p * d.times) (product (drop k rest)) q)

    pub modulus_ahead : dimensions_before (rank axes) axis ≡ 0 → (n p q : ℕ) → p < n → q < c * z * y * x
        → (p * (c * z * y * x) + q) % modulus axes axis n c z y x ≡ p * (c * z * y * x) + q
    modulus_ahead e n p q h k = rw (ahead e n, size_is) (mod-eq_of_lt (place_within h k))
