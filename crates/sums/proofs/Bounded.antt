-- Magnitudes: a product of values of at most A and B is at most A * B, and a sum at most A + B, where the format holds these numbers.
use mathlib.Core.Path.{◌≡◌, sym, ap, ◌∙◌, subst}
use Prim.Native.Nat.{ℕ, ◌+◌, ◌-◌, ◌*◌, ◌^◌, ◌≤◌, ◌<◌}
use native.Mathlib.Nat.{le_trans, le_of_eq, le_of_lt, zero-lt-suc, mul-one, mul_assoc, mul_right_comm, mul-mul-mul_comm, mul-pos, mul-le-mul, mul-le-mul_right, le_of_mul-le-mul_right, add-mul}
use native.Mathlib.Omega.{arith}
use mathlib.Core.Bool.{Bool, true, false, ◌&&◌, ◌||◌, beq, cond, true≢false}
use lib.Dec.{T, ltb, eqb, ltb→lt, eqb→eq}
use lib.Pow.{pow_pos}
use lib.Ieee.{Float, nan, inf, fin, Format, prec, low, up, down, unlike, round, sum, add, mul, le}
use lib.Ieee.Fits.{down_pos, round_is}
use lib.Ieee.Exact.{HasValue, units_val}
use lib.Ieee.Order.{drop, kept, round_mono}
use lib.Ieee.Scale.{finite, grid, overflow, round_val, round_under}
use Rattle.sums.proofs.Round.{Plus, round_plus}
use Rattle.tensor.proofs.Element.{AtMost}

pub at_most_finite : (x : Float) (B : ℕ) → AtMost x B → T (finite x)
at_most_finite nan B h = absurd h
at_most_finite (inf s) B h = absurd h
at_most_finite (fin s m e) B h = tt

-- by any fraction that x equals
from_value : (x : Float) (s : Bool) (a c B : ℕ) → 0 < c → a ≤ B * c → HasValue x s a c → AtMost x B
from_value nan s a c B C h v = absurd v
from_value (inf t) s a c B C h v = absurd v
from_value (fin t m e) s a c B C h v =
    le_of_mul-le-mul_right (le_trans (le_of_eq v.1) (le_trans (mul-le-mul_right (down e) h) (le_of_eq (mul_right_comm B c (down e))))) C

to_value : (x : Float) (s : Bool) (a c B : ℕ) → 0 < c → AtMost x B → HasValue x s a c → a ≤ B * c
to_value nan s a c B C h v = absurd h
to_value (inf t) s a c B C h v = absurd h
to_value (fin t m e) s a c B C h v =
    le_of_mul-le-mul_right (le_trans (le_of_eq (sym v.1)) (le_trans (mul-le-mul_right c h) (le_of_eq (mul_right_comm B (down e) c)))) (down_pos e)

lt_or_eq : (a b : ℕ) → T (ltb a b || (eqb a b && true)) → a ≤ b
lt_or_eq a b t = go (ltb a b) (eqb a b) (ltb→lt a b) (eqb→eq a b) t
  where
    go : (p q : Bool) → (T p → a < b) → (T q → a ≡ b) → T (p || (q && true)) → a ≤ b
    go true q h k t = le_of_lt (h tt)
    go false true h k t = le_of_eq (k tt)
    go false false h k t = absurd t

-- below a value that is finite and not negative
below : (x y : Float) (B : ℕ) → Plus x → HasValue y false B 1 → T (le x y) → AtMost x B
unfolding le
below nan y B p v t = absurd p
below (inf true) y B p v t = absurd (true≢false p)
below (inf false) nan B p v t = absurd v
below (inf false) (inf u) B p v t = absurd v
below (inf false) (fin u n d) B p v t = absurd t
below (fin true m e) y B p v t = absurd (true≢false p)
below (fin false m e) nan B p v t = absurd v
below (fin false m e) (inf u) B p v t = absurd v
below (fin false m e) (fin true n d) B p v t = absurd (true≢false v.0)
below (fin false m e) (fin false n d) B p v t =
    le_of_mul-le-mul_right (le_trans (lt_or_eq (m * up e * down d) (n * up d * down e) t) (le_of_eq (ap (λ (x : ℕ). x * down e) (sym (mul-one (n * up d)) ∙ v.1) ∙ mul_right_comm B (down d) (down e)))) (down_pos d)

-- ---- rounding does not go above a value of the format
-- B is such a value
pub record Holds (f : Format) (B : ℕ) : Type 0 where
  pub self : HasValue (round f false B 1) false B 1

round_at_most : (f : Format) (s : Bool) (n c B : ℕ) → 0 < c → n ≤ B * c → Holds f B → AtMost (round f s n c) B
round_at_most f s n c B C h b =
    let a : AtMost (round f false n c) B = below (round f false n c) (round f false B 1) B (round_plus f n c) b.self (round_mono f n c B 1 C (zero-lt-suc 0) (le_trans (le_of_eq (mul-one n)) h)) in
    let u : grid f n c < overflow f = round_under f n c (at_most_finite (round f false n c) B a) in
    let g : grid f n c ≤ B * 2 ^ low f = to_value (round f false n c) false (grid f n c) (2 ^ low f) B (pow_pos (low f)) a (round_val f n c u) in
    from_value (round f s n c) s (grid f n c) (2 ^ low f) B (pow_pos (low f)) g
    (subst (λ (z : Float). HasValue z s (grid f n c) (2 ^ low f)) (sym (round_is f s n c)) (units_val f s (kept (prec f) (n * 2 ^ low f) c) (drop (prec f) (n * 2 ^ low f) c) u))

-- ---- the operations
pub mul_at_most : (f : Format) (x y : Float) (A B : ℕ) → AtMost x A → AtMost y B → Holds f (A * B) → AtMost (mul f x y) (A * B)
unfolding mul
mul_at_most f nan y A B h k b = absurd h
mul_at_most f (inf s) y A B h k b = absurd h
mul_at_most f (fin s m e) nan A B h k b = absurd k
mul_at_most f (fin s m e) (inf t) A B h k b = absurd k
mul_at_most f (fin s m e) (fin t n d) A B h k b =
    round_at_most f (unlike s t) (m * up e * (n * up d)) (down e * down d) (A * B) (mul-pos (down_pos e) (down_pos d)) (le_trans (mul-le-mul h k) (le_of_eq (mul-mul-mul_comm A (down e) B (down d)))) b

sum_at_most : (f : Format) (s t : Bool) (a b c B : ℕ) → 0 < c → a + b ≤ B * c → Holds f B → AtMost (sum f s a t b c) B
unfolding sum
sum_at_most f s t a b c B C h v = go (beq s t) (ltb a b)
  where
    go : (p q : Bool) → AtMost (cond p (round f s (a + b) c) (cond q (round f t (b - a) c) (round f (s && ltb b a) (a - b) c))) B
    go true q = round_at_most f s (a + b) c B C h v
    go false true = round_at_most f t (b - a) c B C (omega arith) v
    go false false = round_at_most f (s && ltb b a) (a - b) c B C (omega arith) v

pub add_at_most : (f : Format) (x y : Float) (A B : ℕ) → AtMost x A → AtMost y B → Holds f (A + B) → AtMost (add f x y) (A + B)
unfolding add
add_at_most f nan y A B h k b = absurd h
add_at_most f (inf s) y A B h k b = absurd h
add_at_most f (fin s m e) nan A B h k b = absurd k
add_at_most f (fin s m e) (inf t) A B h k b = absurd k
add_at_most f (fin s m e) (fin t n d) A B h k b =
    let c = down e * down d in
    let p : m * up e * down d ≤ A * c = le_trans (mul-le-mul_right (down d) h) (le_of_eq (mul_assoc A (down e) (down d))) in
    let q : n * up d * down e ≤ B * c = le_trans (mul-le-mul_right (down e) k) (le_of_eq (mul_right_comm B (down d) (down e) ∙ mul_assoc B (down e) (down d))) in
    sum_at_most f s t (m * up e * down d) (n * up d * down e) c (A + B) (mul-pos (down_pos e) (down_pos d)) (omega (arith, add-mul A B c)) b

-- a wider bound
pub wider : (x : Float) (A B : ℕ) → A ≤ B → AtMost x A → AtMost x B
wider nan A B l h = absurd h
wider (inf s) A B l h = absurd h
wider (fin s m e) A B l h = le_trans h (mul-le-mul_right (down e) l)
