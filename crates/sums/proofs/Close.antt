-- Demand 3, the additions: a float that is a whole number close to the exact sum of n taps, and that adding keeps this (`add_close`). An addition moves a sum by at
-- most one for each 2^24 of its magnitude, so by at most the number of its taps; the errors of both parts leave room for that.
use mathlib.Core.Path.{◌≡◌, refl, ◌∙◌}
use mathlib.Core.Bool.{Bool, true, ◌&&◌}
use Prim.Native.Nat.{ℕ, suc, ◌+◌, ◌*◌, ◌^◌, ◌≤◌, ◌<◌}
use native.Mathlib.Nat.{lt_of_lt_of_le, mul-le-mul}
use native.Mathlib.Omega.{arith}
use lib.Dec.{T, leb, leb→le, lit≤}
use lib.IntN.{ℤ, pos, nat_abs, ◌+ℤ◌, ◌*ℤ◌, +ℤ_idr}
use lib.Ieee.{Float, binary32, add, mul}
use lib.Ieee.Fits.{and_l, and_r}
use Rattle.tensor.specs.Table.{plus_zero}
use Rattle.sums.specs.Taps.{Factors, none, pair, add_tap}
use Rattle.sums.specs.Whole.{is_whole, value, product, distance, small}
use Rattle.sums.proofs.Integers.{distance_plus, distance_trans, distance_self, abs_plus, abs_near, abs_times}
use Rattle.sums.proofs.Errors.{errors, errors_plus, errors_le}
use Rattle.sums.proofs.Whole.{RoundsTo, times, plus}

-- ---- the premise, for a tap
unfoldable pub small_tap : Factors → Bool
small_tap none = true
small_tap (pair x w) = small x && small w

abbrev pub SmallTaps : (ℕ → Factors) → ℕ → Type 0
SmallTaps taps n = (t : ℕ) → t < n → T (small_tap (taps t))

small_whole : (x : Float) → T (small x) → T (is_whole x)
small_whole x h = and_l (is_whole x) (leb (nat_abs (value x)) 4096) h

small_le : (x : Float) → T (small x) → nat_abs (value x) ≤ 4096
small_le x h = leb→le (nat_abs (value x)) 4096 (and_r (is_whole x) (leb (nat_abs (value x)) 4096) h)

product_le : (tap : Factors) → T (small_tap tap) → nat_abs (product tap) ≤ 16777216
unfolding small_tap product
product_le none h = omega arith
product_le (pair x w) h = rw (abs_times (value x) (value w)) (mul-le-mul (small_le x (and_l (small x) (small w) h)) (small_le w (and_r (small x) (small w) h)))

-- ---- r is a whole number close to the exact sum e of n taps, whose magnitudes total m
pub record Close (n : ℕ) (r : Float) (e : ℤ) (m : ℕ) : Type 0 where
  pub whole : T (is_whole r)
  pub near : distance (value r) e ≤ errors n
  pub same : m ≤ 16777216 → value r ≡ e
  pub exact : nat_abs e ≤ m
  pub total_le : m ≤ n * 16777216

pub close_zero : Close 0 plus_zero (pos 0) 0
unfolding is_whole value errors
close_zero = record { whole = tt; near = omega arith; same = λ _. refl; exact = omega arith; total_le = omega arith }

-- a tap that takes no part
close_none : (n : ℕ) (r : Float) (e : ℤ) (m : ℕ) → Close n r e m → Close (suc n) r (e +ℤ pos 0) (m + 0)
close_none n r e m h =
    rw (+ℤ_idr e)
    (record {
      whole = h.whole;
      near = omega (arith, errors_plus n 1 (suc n) 0 (omega arith) (omega arith) (λ _. refl) (omega arith), h.near);
      same = λ g. h.same (omega arith);
      exact = omega (arith, h.exact);
      total_le = omega (arith, h.total_le);
    })

-- a product is exact
close_product : (x w : Float) → T (small_tap (pair x w)) → Close 1 (mul binary32 x w) (value x *ℤ value w) (nat_abs (value x *ℤ value w))
unfolding small_tap product
close_product x w h =
    let b : nat_abs (value x *ℤ value w) ≤ 16777216 = product_le (pair x w) h in
    let y = times binary32 x w (small_whole x (and_l (small x) (small w) h)) (small_whole w (and_r (small x) (small w) h)) b in
    record { whole = y.0; near = rw y.1 (omega (arith, distance_self (value x *ℤ value w))); same = λ _. y.1; exact = omega arith; total_le = omega (arith, b) }

-- ---- the sum of two, of a and b taps; where a is 0 it is that of the first tap
-- `omega` takes no number of more than 38 digits
in_range_lem : (n : ℕ) → n < 140000000000 → n + n < 2 ^ 128
in_range_lem n h = let a : n + n < 280000000000 = omega arith in lt_of_lt_of_le a (lit≤ tt)

module _ (a b n : ℕ) (x y : Float) (e d : ℤ) (m l : ℕ) (parts : n ≡ a + b) (some : 1 ≤ b) (first : a ≡ 0 → b ≡ 1) (few : n ≤ 4096) (h : Close a x e m) (k : Close b y d l) where
  size : nat_abs (value x +ℤ value y) ≤ errors n + n * 16777216
  size =
      omega (
        arith,
        abs_plus (value x) (value y),
        abs_near (value x) e,
        abs_near (value y) d,
        errors_plus a b n 0 parts some (λ _. refl) (omega arith),
        h.near,
        h.exact,
        h.total_le,
        k.near,
        k.exact,
        k.total_le,
      )

  rounds : T (is_whole (add binary32 x y)) × RoundsTo 24 (value x +ℤ value y) (value (add binary32 x y))
  rounds = plus binary32 x y h.whole k.whole (in_range_lem (nat_abs (value x +ℤ value y)) (omega (arith, size, errors_le n (omega arith) few)))

  moved : distance (value (add binary32 x y)) (value x +ℤ value y) ≤ n
  moved = omega (arith, rounds.1.near, size, errors_le n (omega arith) few)

  not_moved : a ≡ 0 → distance (value (add binary32 x y)) (value x +ℤ value y) ≡ 0
  not_moved z = rw (rounds.1.same (omega (arith, first z, size, errors_le n (omega arith) few))) (distance_self (value x +ℤ value y))

  apart : distance (value (add binary32 x y)) (e +ℤ d) ≤ distance (value x) e + distance (value y) d + distance (value (add binary32 x y)) (value x +ℤ value y)
  apart = omega (arith, distance_trans (value (add binary32 x y)) (value x +ℤ value y) (e +ℤ d), distance_plus (value x) e (value y) d)

  pub add_near : distance (value (add binary32 x y)) (e +ℤ d) ≤ distance (value x) e + distance (value y) d + n
  add_near = omega (arith, apart, moved)

  pub add_close : Close n (add binary32 x y) (e +ℤ d) (m + l)
  add_close =
      record {
        whole = rounds.0;
        near = omega (arith, apart, errors_plus a b n (distance (value (add binary32 x y)) (value x +ℤ value y)) parts some not_moved moved, h.near, k.near);
        same =
            λ g. let p : value x ≡ e = h.same (omega arith) in
            let q : value y ≡ d = k.same (omega arith) in
            rounds.1.same (rw (p, q) (omega (arith, abs_plus e d, h.exact, k.exact))) ∙ cc;
        exact = omega (arith, abs_plus e d, h.exact, k.exact);
        total_le = omega (arith, h.total_le, k.total_le);
      }

-- one tap more
pub tap_close : (n : ℕ) (sum : Float) (tap : Factors) (e : ℤ) (m : ℕ) → n < 4096 → T (small_tap tap) → Close n sum e m → Close (suc n) (add_tap sum tap) (e +ℤ product tap) (m + nat_abs (product tap))
unfolding add_tap small_tap product
tap_close n sum none e m l h g = close_none n sum e m g
tap_close n sum (pair x w) e m l h g =
    let p = value x *ℤ value w in
    add_close n 1 (suc n) sum (mul binary32 x w) e p m (nat_abs p) (omega arith) (omega arith) (λ _. refl) l g (close_product x w h)
