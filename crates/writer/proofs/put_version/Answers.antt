-- `put_version` meets its contract: no line, or the one line.
use native.Mathlib.Omega.{arith}
use mathlib.Core.Path.{◌≡◌}
use borrow.Author.Tests.{ne_eqb}
use Rattle.text.specs.Texts.{place}
use Rattle.values.specs.Words.{word_at}
use Rattle.values.specs.Values.{show_field}
use Rattle.writer.proofs.put_version.Goals as goal

pub returns : goal.returns
unfolding show_field word_at place
returns c =
    let other : c.args.version ≡ 8 → ⊥ = λ e. omega arith in
    rw (ne_eqb _ 8 other) (rw c.one_item.ensures at c.put_line.ensures)
