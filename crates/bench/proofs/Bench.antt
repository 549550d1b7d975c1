-- The cases (B) of document 01 hold, in one statement over the list of them: each computes from the definitions that the contracts cite.
use mathlib.Core.Path.{refl}
use native.Mathlib.Omega.{arith}
use lib.Dec.{lit≤}
use lib.Ieee.{add, mul, lt, of_int}
use Rattle.sizes.specs.Size.{ceil_div, dilated_kernel, valid_out, same_out, same_total, transposed_out}
use Rattle.taps.specs.Taps.{any_below}
use Rattle.sizes.specs.Sizing.{axis_dimensions_ok, axis_attributes_ok}
use Rattle.taps.specs.Joins.{forward, position_by, reach_of, backward, both, is_at}
use Rattle.counts.specs.Index.{modulus}
use Rattle.shape.specs.Volumes.{input_rows, kernel_rows, out_rows, on_rows, on_plane}
use Rattle.shape.specs.Windows.{window_empty, some_empty}
use Rattle.shape.specs.Checks.{dimensions_ok, axis_at_default, axes_ok, pooling_ok, not_pooling_ok, unused_ok, attributes_ok, counts_ok, fits_ok, output_ok, windows_ok}
use Rattle.shape.specs.Judge.{judged}
use Rattle.tensor.specs.Table.{tabulate}
use Rattle.tensor.specs.Element.{element_ok, first_bad, bad_count, element_check}
use Rattle.tensor.specs.Window.{All, best_of}
use Rattle.sums.specs.Taps.{tap_at, add_tap, sum_from, output_of}
use Rattle.sums.specs.Whole.{is_whole, value, product, total, magnitudes}
use Rattle.sums.proofs.Demand.{not_halved}
use Rattle.call.specs.Checks.{elements_verdict, verdict}
use Rattle.call.specs.Call.{answer_in, leaves}
use Rattle.places.specs.Places.{placed, place_of}
use Rattle.transposed.specs.Transposed.{reached, place_of as transposedPlaceOf}
use Rattle.pooling.specs.Windows.{over_taps, window_of}
use Rattle.bench.specs.Bench.{Holds, bench_cases}

infixr 4 ◌and◌
◌and◌ : {A B : Type 0} → A → B → A × B
a and b = (a, b)

pub bench : All Holds bench_cases
unfolding ceil_div dilated_kernel valid_out same_out same_total transposed_out any_below axis_dimensions_ok axis_attributes_ok forward position_by reach_of backward both is_at modulus input_rows kernel_rows out_rows on_rows on_plane window_empty some_empty dimensions_ok axis_at_default axes_ok pooling_ok not_pooling_ok unused_ok attributes_ok counts_ok fits_ok output_ok windows_ok judged tabulate element_ok first_bad bad_count element_check best_of tap_at add_tap sum_from output_of is_whole value product total magnitudes elements_verdict verdict answer_in leaves placed place_of reached transposedPlaceOf over_taps window_of add mul lt of_int
bench =
    refl and refl and refl and refl and refl and refl and refl and refl and refl
    and record { answer = refl; values = refl; indices = refl }
    and record { answer = refl; values = refl; indices = refl }
    and record { answer = refl; contents = refl }
    and record {
      sums = record { answer = refl; contents = refl };
      exact = refl;
      allowed = refl;
      whole = record { whole = tt; near = lit≤ tt; nearer = λ e. absurd (not_halved e); same = λ h. absurd (omega (arith, h)) };
    }
    and record { answer = refl; contents = refl }
    and record { answer = refl; values = refl; indices = refl }
    and record { size = refl; taps = refl; window = refl }
    and record { answer = refl; values = refl; indices = refl }
    and record { answer = refl; values = refl; indices = refl }
    and record { size = refl; taps = refl; window = refl }
    and tt
