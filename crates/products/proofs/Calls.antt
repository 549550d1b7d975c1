-- A convolution's call by its verdict, for either profile: what it owes besides its products is what every convolution's call does (`refused_call`, `filled_call`).
use Rattle.std.specs.Prelude.{Err, Ok, IsOk, Result, ⊤}
use Prim.Native.Nat.{ℕ}
use mathlib.Core.Path.{◌≡◌, refl, sym, ap}
use mathlib.Core.Bool.{false≢true}
use mathlib.Core.List.{List}
use lib.ListN.{length}
use lib.Ieee.{Float}
use Rattle.layer.specs.declared.Op.TheVariants.{Convolution}
use Rattle.layer.specs.declared.Layer.{Layer}
use Rattle.shape.specs.declared.Shape.{Shape}
use Rattle.tensor.specs.Table.{tabulate}
use Rattle.sums.specs.declared.Profile.{Profile}
use Rattle.sums.specs.Taps.{output_of}
use Rattle.call.specs.Checks.{sum_verdict}
use Rattle.call.specs.Call.{answer_of, contents_of, WholeOutputs, FiniteOutputs}
use Rattle.call.specs.Fitting.{Fitting}
use Rattle.call.proofs.Outcome.{fitting, refused_call, filled_call}
use Rattle.layer.specs.Refusals.{done}
use Rattle.places.specs.Places.{place_of}
use Rattle.places.proofs.Places.{in_range_lem}
use Rattle.products.specs.Products.{products_in, products_of}
use Rattle.products.specs.Axes.{counted_in}
use Rattle.layer.specs.declared.Refusal.{Refusal}

-- ---- the verdict with its products, and back
abbrev told : Shape → Result (Shape × ℕ) Refusal → Shape × ℕ
told t (Ok p) = p
told t (Err e) = (t, 0)

counted_run : (v : Result Shape Refusal) (s : Shape) (n : ℕ) → counted_in v ≡ Ok (s, n) → (v ≡ Ok s) × (n ≡ products_in v)
unfolding counted_in products_in
counted_run (Ok t) s n e = let u = ap (told t) e in (ap (λ (p : Shape × ℕ). Ok p.0) u, sym (ap (λ (p : Shape × ℕ). p.1) u))
counted_run (Err a) s n e = absurd (false≢true cc)

counted_refuse : (v : Result Shape Refusal) (a : Refusal) → counted_in v ≡ Err a → (v ≡ Err a) × (0 ≡ products_in v)
unfolding counted_in products_in
counted_refuse (Ok t) a e = absurd (false≢true cc)
counted_refuse (Err b) a e = let u : b ≡ a = cc in (ap Err u, refl)

-- ---- what a call owes that comes back with its products, clause by clause
abbrev pub answer_alone : Result ℕ Refusal → Result ⊤ Refusal
answer_alone (Ok n) = done
answer_alone (Err e) = Err e

abbrev pub reported : Result ℕ Refusal → ℕ
reported (Ok n) = n
reported (Err e) = 0

abbrev pub Promised : Profile → Layer → List Float → List Float → List Float → List Float → Result ℕ Refusal → Type 0
Promised profile l input kernel before after r =
    (answer_alone r ≡ answer_of Convolution l input kernel (length before))
    × ((reported r ≡ products_of Convolution l input kernel (length before))
    × ((after ≡ contents_of Convolution profile place_of l input kernel before)
    × ((IsOk r → WholeOutputs Convolution profile place_of l input kernel after) × (IsOk r → FiniteOutputs after))))

-- the slices of a call that is run fit its shape
pub counted_fits : (l : Layer) (input kernel : List Float) (output : ℕ) (s : Shape) (n : ℕ) → counted_in (sum_verdict Convolution l input kernel output) ≡ Ok (s, n)
    → Fitting s input kernel × (output ≡ s.outputs)
counted_fits l input kernel output s n e = fitting Convolution refl l input kernel output s (counted_run _ s n e).0

module _ (profile : Profile) (l : Layer) (input kernel before : List Float) where
  -- a refused call leaves its output as it was and reports no products
  pub refused_convolution : (a : Refusal) → counted_in (sum_verdict Convolution l input kernel (length before)) ≡ Err a
      → Promised profile l input kernel before before (Err a)
  refused_convolution a e =
      let v = counted_refuse _ a e in
      let p = refused_call Convolution refl profile place_of in_range_lem l input kernel before a v.0 in
      (p.0, (v.1, p.1))

  -- a call that is run and has filled its output reports its products
  pub filled_convolution : (s : Shape) (n : ℕ) (after : List Float) → counted_in (sum_verdict Convolution l input kernel (length before)) ≡ Ok (s, n)
      → after ≡ tabulate (output_of profile (place_of s) s.taps input kernel) s.outputs
      → Promised profile l input kernel before after (Ok n)
  filled_convolution s n after e f =
      let v = counted_run _ s n e in
      let p = filled_call Convolution refl profile place_of in_range_lem l input kernel before s after v.0 f in
      (p.0, (v.1, p.1))
