-- A cap inside a factor is not seen outside.
use Rattle.std.proofs.Common.{rules, ◌≡◌, ◌∙◌, ◌*◌, drop}
use Rattle.std.specs.List.{fold}
use Rattle.std.proofs.iter.runs.Made.{chains}
use Rattle.counts.specs.Counts.{capped}
use Rattle.counts.proofs.Modulus.{fold_capped}
use Rattle.counts.proofs.product_from.Goals as goal

pub returns : goal.returns
returns c =
    let e : c.fold.result ≡ fold (λ p d. capped (p * d)) 1 (drop c.args.k c.args.dimensions.now) = search (rules, chains) in
    e ∙ fold_capped (drop c.args.k c.args.dimensions.now)
