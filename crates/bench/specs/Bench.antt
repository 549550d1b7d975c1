-- Document 01, "Bench cases": "Marked (B): to be proved together, as a single statement over a list of them." Each kind of case says what has to hold by the
-- definitions that the operators' contracts cite.
use Rattle.std.specs.Prelude.{ℕ, ◌-◌, ◌+◌, ◌*◌, ◌/◌, true, false, ◌≡◌, List, [], ◌∷◌, ◌++◌, map, ℤ, pos, negsuc, ◌-ℤ◌, length, Float}
use Rattle.std.specs.Float.{fin}
use Rattle.layer.specs.declared.Op.{Op}
use Rattle.layer.specs.declared.Op.TheVariants.{Convolution, Transposed, MaxPool}
use Rattle.layer.specs.declared.AutoPad.TheVariants.{Explicit}
use Rattle.layer.specs.declared.Rounding.TheVariants.{Floor}
use Rattle.layer.specs.declared.Layer.{Layer}
use Rattle.layer.specs.Refusals.{done}
use Rattle.sizes.specs.declared.Span.{Span}
use Rattle.taps.specs.Taps.{tap_position}
use Rattle.shape.specs.declared.Shape.{Shape}
use Rattle.shape.specs.Counts.{shape_of}
use Rattle.tensor.specs.declared.Window.TheVariants.{Empty}
use Rattle.tensor.specs.Table.{plus_zero, read, tabulate}
use Rattle.sums.specs.Taps.{Place, missing, Factors, taps_of}
use Rattle.sums.specs.declared.Profile.TheVariants.{Running}
use Rattle.sums.specs.Whole.{WholeSum, exact_sum}
use Rattle.call.specs.Call.{answer_of, contents_of}
use Rattle.places.specs.Places as convolution
use Rattle.transposed.specs.Transposed as transposed
use Rattle.pooling.specs.Windows.{window_of}
use Rattle.bench.specs.Sizes.{SizeCase, size_of, size_cases, along, one_axis}
use Rattle.bench.specs.Pools.{PoolCase, Computes, unwritten, example2, example5, second_empty, without_second, both_outside}

-- ---- a call of a convolution, of either kind

-- the places of an operator's taps; pooling sums nothing
abbrev pub places_of : Op → Shape → ℕ → ℕ → Place
places_of Convolution s j t = convolution.place_of s j t
places_of Transposed s j t = transposed.place_of s j t
places_of MaxPool s j t = missing

-- a call that is accepted, and what it leaves in an output of unwritten elements
pub record SumCase : Type 0 where
  pub layer : Layer
  pub input : List Float
  pub kernel : List Float
  pub output : List Float

abbrev pub entry_output : SumCase → List Float
entry_output c = map (λ v. unwritten) c.output

pub record Sums (c : SumCase) : Type 0 where
  pub answer : answer_of c.layer.op c.layer c.input c.kernel (length (entry_output c)) ≡ done
  pub contents : contents_of c.layer.op Running (places_of c.layer.op) c.layer c.input c.kernel (entry_output c) ≡ c.output

-- ---- the whole-number account of output 0 of a call (demand 3)

pub record ExactCase : Type 0 where
  pub call : SumCase
  pub exact : ℤ
  pub allowed : ℕ

abbrev pub taps_in : SumCase → ℕ → Factors
taps_in c = taps_of (places_of c.layer.op (shape_of c.layer.op c.layer)) c.input c.kernel 0

-- K
abbrev pub tap_count_in : SumCase → ℕ
tap_count_in c = (shape_of c.layer.op c.layer).taps

-- `exact` is the exact sum of the taps, `allowed` the distance that demand 3 allows, (K - 1)·(K + 2)/2, and `whole` demand 3 for the output
pub record Accounts (c : ExactCase) : Type 0 where
  pub sums : Sums c.call
  pub exact : exact_sum (taps_in c.call) (tap_count_in c.call) ≡ c.exact
  pub allowed : (tap_count_in c.call - 1) * (tap_count_in c.call + 2) / 2 ≡ c.allowed
  pub whole : WholeSum Running (taps_in c.call) (tap_count_in c.call) (read c.call.output 0)

-- ---- an empty window of a pooling call with one axis: the output's size, the output whose window it is, and where its taps lie

pub record WindowCase : Type 0 where
  pub call : PoolCase
  pub size : ℕ
  pub output : ℕ
  pub taps : List ℤ

abbrev pub shape_in : PoolCase → Shape
shape_in c = shape_of MaxPool c.layer

-- "Tap ky lies at input row y·s - begin + ky·d": tap k of output p, as a place that may be negative
abbrev pub tap_place : Span → ℕ → ℕ → ℤ
tap_place s p k = pos (tap_position s.stride s.dilation p k) -ℤ pos s.begin

pub record LeavesEmpty (c : WindowCase) : Type 0 where
  pub size : (shape_in c.call).x.out ≡ c.size
  pub taps : tabulate (tap_place (shape_in c.call).x c.output) (shape_in c.call).x.kernel ≡ c.taps
  pub window : window_of c.call.input (shape_in c.call) c.output ≡ Empty

-- ---- the list

pub data Case : Type 0 where
  size : SizeCase → Case
  sum : SumCase → Case
  exact : ExactCase → Case
  pool : PoolCase → Case
  window : WindowCase → Case

abbrev pub Holds : Case → Type 0
Holds (size c) = size_of c ≡ (c.number, c.size)
Holds (sum c) = Sums c
Holds (exact c) = Accounts c
Holds (pool c) = Computes c
Holds (window c) = LeavesEmpty c

-- the f32 1, 2 and 3
abbrev one : Float
one = fin false 1 (pos 0)

abbrev two : Float
two = fin false 1 (pos 1)

abbrev three : Float
three = fin false 3 (pos 0)

-- 4,096
abbrev large : Float
large = fin false 1 (pos 12)

-- "(B) Convolution, input (-0), weight 1: +0."
abbrev pub minus_zero : SumCase
minus_zero =
    record {
      layer = one_axis Convolution Explicit Floor (along 1 1 1 1 0);
      input = fin true 0 (pos 0) ∷ [];
      kernel = one ∷ [];
      output = plus_zero ∷ [];
    }

-- "Input (4096, 1), weights (4096, 1): 16,777,216; exact 16,777,217, allowed distance 2." 16,777,216 is 2^24.
abbrev pub rounded : ExactCase
rounded =
    record {
      call =
          record {
            layer = one_axis Convolution Explicit Floor (along 2 2 1 1 0);
            input = large ∷ one ∷ [];
            kernel = large ∷ one ∷ [];
            output = fin false 1 (pos 24) ∷ [];
          };
      exact = pos 16777217;
      allowed = 2;
    }

-- "(B) Transposed, input 1,2, weights 1,1,1, s 2: 1,1,3,2,2."
abbrev pub spread : SumCase
spread =
    record {
      layer = one_axis Transposed Explicit Floor (along 2 3 2 1 0);
      input = one ∷ two ∷ [];
      kernel = one ∷ one ∷ one ∷ [];
      output = one ∷ one ∷ three ∷ two ∷ two ∷ [];
    }

-- "(B) Pool in 2, k 1, s 3, ceil, pads 0: out 2, second window empty, 7"
abbrev pub second_window : WindowCase
second_window = record { call = second_empty; size = 2; output = 1; taps = pos 3 ∷ [] }

-- "Pool in 3, k 2, d 16, same_upper: taps -8 and 8, 7."
abbrev pub first_window : WindowCase
first_window = record { call = both_outside; size = 3; output = 0; taps = negsuc 7 ∷ pos 8 ∷ [] }

-- The sizes (with the number of each layer, 7 of two), 002 examples 2 and 5, the sums, the two calls that answer 7, and the first of them with ceil_torch.
abbrev pub bench_cases : List Case
bench_cases =
    map size size_cases
    ++ (pool example2
    ∷ pool example5
    ∷ sum minus_zero
    ∷ exact rounded
    ∷ sum spread
    ∷ pool second_empty
    ∷ window second_window
    ∷ pool without_second
    ∷ pool both_outside
    ∷ window first_window
    ∷ [])
