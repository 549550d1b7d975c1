-- Demand 3 for a halved sum, with C-17's bound: `whole_halved`. By induction over the cuts: the errors of two parts of at most 2^h taps are at most h for each tap,
-- and the addition that joins them adds at most one for each tap.
use mathlib.Core.Path.{◌≡◌, refl, sym, ap, ◌∙◌}
use Prim.Native.Nat.{ℕ, zero, suc, ◌+◌, ◌*◌, ◌^◌, ◌≤◌}
use native.Mathlib.Nat.{add-zero, zero-add, add-suc, add_assoc, mul-suc, add-mul, two-pow-succ}
use native.Mathlib.Omega.{arith}
use lib.IntN.{ℤ, pos, ◌+ℤ◌, +ℤ_idr, +ℤ_assoc}
use lib.Ieee.{Float, binary32, add}
use Rattle.tensor.specs.Table.{plus_zero}
use Rattle.sums.specs.Taps.{Factors, add_tap, first_part, second_part, halved}
use Rattle.sums.specs.Whole.{value, product, total, exact_sum, magnitudes, distance, WholeSum}
use Rattle.sums.specs.declared.Profile.{Profile}
use Rattle.sums.specs.declared.Profile.TheVariants.{Halved}
use Rattle.sums.proofs.Errors.{errors, errors_is}
use Rattle.sums.proofs.Close.{SmallTaps, Close, close_zero, add_near, add_close, tap_close}
use Rattle.sums.proofs.Halved.{by_cuts}

-- ---- exact sums and magnitudes: of equal products, and of a run in two parts
exact_same : (taps others : ℕ → Factors) (n : ℕ) → ((t : ℕ) → product (taps t) ≡ product (others t)) → exact_sum taps n ≡ exact_sum others n
unfolding total
exact_same taps others zero h = refl
exact_same taps others (suc n) h = cc (exact_same taps others n h, h n)

magnitudes_same : (taps others : ℕ → Factors) (n : ℕ) → ((t : ℕ) → product (taps t) ≡ product (others t)) → magnitudes taps n ≡ magnitudes others n
unfolding magnitudes
magnitudes_same taps others zero h = refl
magnitudes_same taps others (suc n) h = cc (magnitudes_same taps others n h, h n)

pub whole_same : (profile : Profile) (taps others : ℕ → Factors) (k : ℕ) (r : Float) → ((t : ℕ) → product (taps t) ≡ product (others t)) → WholeSum profile taps k r → WholeSum profile others k r
whole_same profile taps others k r h w =
    let e = exact_same taps others k h in
    let m = magnitudes_same taps others k h in
    record { whole = w.whole; near = rw (← e) w.near; nearer = λ p i l. rw (← e) (w.nearer p i l); same = λ g. w.same (rw m g) ∙ e }

abbrev later : (ℕ → Factors) → ℕ → ℕ → Factors
later taps first t = taps (first + t)

exact_append : (taps : ℕ → Factors) (n m : ℕ) → exact_sum taps (n + m) ≡ exact_sum taps n +ℤ exact_sum (later taps n) m
unfolding total
exact_append taps n zero = rw (add-zero, +ℤ_idr)
exact_append taps n (suc m) = rw (add-suc, exact_append taps n m) (+ℤ_assoc (exact_sum taps n) (exact_sum (later taps n) m) (product (taps (n + m))))

magnitudes_append : (taps : ℕ → Factors) (n m : ℕ) → magnitudes taps (n + m) ≡ magnitudes taps n + magnitudes (later taps n) m
unfolding magnitudes
magnitudes_append taps n zero = simp add-zero
magnitudes_append taps n (suc m) = rw (add-suc, magnitudes_append taps n m) (omega arith)

-- ---- one cut, in whole numbers: r is close to the exact sum e of n taps, and at most h away for each of them where 2^h is at least n
record Fine (n : ℕ) (r : Float) (e : ℤ) (m : ℕ) : Type 0 where
  close : Close n r e m
  nearer : (h : ℕ) → n ≤ 2 ^ h → distance (value r) e ≤ n * h

fine_few : (n : ℕ) (r : Float) (e : ℤ) (m : ℕ) → n ≤ 1 → Close n r e m → Fine n r e m
unfolding errors
fine_few zero r e m l h = record { close = h; nearer = λ i g. omega (arith, h.near) }
fine_few (suc zero) r e m l h = record { close = h; nearer = λ i g. omega (arith, h.near) }
fine_few (suc (suc n)) r e m l h = absurd (omega arith)

fine_both : (a b n : ℕ) (x y : Float) (e d : ℤ) (m l : ℕ) → n ≡ a + b → b ≤ a → a ≤ suc b → 2 ≤ n → n ≤ 4096 → Fine a x e m → Fine b y d l → Fine n (add binary32 x y) (e +ℤ d) (m + l)
fine_both a b n x y e d m l parts le ge two few f g =
    record { close = add_close a b n x y e d m l parts (omega arith) (λ z. absurd (omega arith)) few f.close g.close; nearer = farther }
  where
    farther : (h : ℕ) → n ≤ 2 ^ h → distance (value (add binary32 x y)) (e +ℤ d) ≤ n * h
    farther zero q = absurd (omega arith)
    farther (suc h) q =
        omega (
          arith,
          add_near a b n x y e d m l parts (omega arith) (λ z. absurd (omega arith)) few f.close g.close,
          f.nearer h (omega (arith, two-pow-succ h)),
          g.nearer h (omega (arith, two-pow-succ h)),
          mul-suc n h,
          ap (λ (i : ℕ). i * h) parts,
          add-mul a b h,
        )

-- ---- every run of the taps
module _ (taps : ℕ → Factors) (k : ℕ) (few : k ≤ 4096) (small : SmallTaps taps k) where
  abbrev Run : ℕ → ℕ → Float → Type 0
  Run first n r = first + n ≤ k → Fine n r (exact_sum (later taps first) n) (magnitudes (later taps first) n)

  no_tap : (first : ℕ) → Run first 0 plus_zero
  unfolding total magnitudes
  no_tap first l = fine_few 0 plus_zero (pos 0) 0 (omega arith) close_zero

  one : (first : ℕ) → Run first 1 (add_tap plus_zero (taps first))
  unfolding total magnitudes
  one first l = rw (add-zero first) (fine_few 1 _ _ _ (omega arith) (tap_close 0 plus_zero (taps first) (pos 0) 0 (omega arith) (small first (omega arith)) close_zero))

  both : (first n : ℕ) (x y : Float) → 2 ≤ n → Run first (first_part n) x → Run (first + first_part n) (second_part n) y → Run first n (add binary32 x y)
  both first n x y c f g l =
      let a = first_part n in
      let b = second_part n in
      let u = later taps first in
      let z : n ≡ a + b = omega arith in
      let s : (t : ℕ) → product (later u a t) ≡ product (later taps (first + a) t) = λ t. ap (λ (i : ℕ). product (taps i)) (sym (add_assoc first a t)) in
      let e : exact_sum u n ≡ exact_sum u a +ℤ exact_sum (later taps (first + a)) b = ap (exact_sum u) z ∙ exact_append u a b ∙ ap (λ (i : ℤ). exact_sum u a +ℤ i) (exact_same (later u a) (later taps (first + a)) b s) in
      let m : magnitudes u n ≡ magnitudes u a + magnitudes (later taps (first + a)) b = ap (magnitudes u) z ∙ magnitudes_append u a b ∙ ap (λ (i : ℕ). magnitudes u a + i) (magnitudes_same (later u a) (later taps (first + a)) b s) in
      rw (e, m) (fine_both a b n x y _ _ _ _ z (omega arith) (omega arith) c (omega arith) (f (omega arith)) (g (omega arith)))

-- ---- demand 3 for one output
pub whole_halved : (taps : ℕ → Factors) (k : ℕ) → k ≤ 4096 → SmallTaps taps k → WholeSum Halved taps k (halved taps 0 k)
whole_halved taps k few small =
    let f : Fine k (halved taps 0 k) (exact_sum (later taps 0) k) (magnitudes (later taps 0) k) =
    by_cuts taps (Run taps k few small) (no_tap taps k few small) (one taps k few small) (both taps k few small) 0 k (omega arith) in
    whole_same Halved (later taps 0) taps k (halved taps 0 k) (λ t. ap (λ (i : ℕ). product (taps i)) (zero-add t))
    (record { whole = f.close.whole; near = omega (arith, f.close.near, errors_is k); nearer = λ _ h l. f.nearer h (omega (arith, l)); same = λ m. f.close.same (omega (arith, m)) })
