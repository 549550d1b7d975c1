-- Laws of a capped product: a cap inside a factor is not seen outside, and the limits are seen through it.
use Prim.Native.Nat.{ℕ, zero, suc, ◌*◌, ◌≤◌, min}
use native.Mathlib.Nat.{mul-le-mul_right, mul-zero, mul_comm}
use native.Mathlib.Decide.{dec_le}
use native.Mathlib.Omega.{arith}
use mathlib.Core.Path.{◌≡◌, sym, ap, ◌∙◌}
use lib.Dec.{leb}
use borrow.Author.Tests.{le-leb, lt-leb}
use Rattle.counts.specs.Counts.{capped}

pub capped_le : (n : ℕ) → capped n ≤ 16777217
unfolding capped
capped_le n = omega arith

-- a count within the limit is told exactly
pub capped_is : (n : ℕ) → n ≤ 16777216 → capped n ≡ n
unfolding capped
capped_is n h = omega arith

pub capped_left : (a b : ℕ) → capped (capped a * b) ≡ capped (a * b)
unfolding capped
capped_left a zero = simp mul-zero
capped_left a (suc b) = go (dec_le a 16777217)
  where
    go : Dec (a ≤ 16777217) → min (min a 16777217 * suc b) 16777217 ≡ min (a * suc b) 16777217
    go (yes p) = let e : min a 16777217 ≡ a = omega arith in rw e
    go (no p) =
        let e : min a 16777217 ≡ 16777217 = omega arith in
        rw e (let h = mul-le-mul_right (suc b) (let q : 16777217 ≤ a = omega arith in q) in omega arith)

pub capped_right : (a b : ℕ) → capped (a * capped b) ≡ capped (a * b)
capped_right a b = ap capped (mul_comm a (capped b)) ∙ (capped_left b a ∙ ap capped (mul_comm b a))

pub capped_both : (a b : ℕ) → capped (capped a * capped b) ≡ capped (a * b)
capped_both a b =
    capped_left a (capped b) ∙ capped_right a b

-- of two factors that the cap does not tell apart, either may stand in a product
pub capped_cong : (p q z : ℕ) → capped p ≡ capped q → capped (p * z) ≡ capped (q * z)
capped_cong p q z e = sym (capped_left p z) ∙ (ap (λ (n : ℕ). capped (n * z)) e ∙ capped_left q z)

-- a cap of the first factor of a volume is not seen either
pub volume_left : (a z y x : ℕ) → capped (capped a * z * y * x) ≡ capped (a * z * y * x)
volume_left a z y x = capped_cong _ (a * z * y) x (capped_cong _ (a * z) y (capped_left a z))

pub capped_twice : (a : ℕ) → capped (capped a) ≡ capped a
unfolding capped
capped_twice a = omega arith

-- a limit of at most 16,777,216 is seen through the cap
pub leb_capped : (k : ℕ) → k ≤ 16777216 → (n : ℕ) → leb (capped n) k ≡ leb n k
unfolding capped
leb_capped k h n = go (dec_le n k)
  where
    go : Dec (n ≤ k) → leb (min n 16777217) k ≡ leb n k
    go (yes p) = le-leb (min n 16777217) k (omega arith) ∙ sym (le-leb n k p)
    go (no p) = lt-leb (min n 16777217) k (omega arith) ∙ sym (lt-leb n k (omega arith))
