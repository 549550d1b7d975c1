-- `find` meets its contract: `position` gives the first place of the byte.
use Rattle.std.proofs.Common.{rules, tests, eqb}
use Rattle.std.proofs.lemmas.Iterator.{YieldsList-from_slice}
use Rattle.std.proofs.lemmas.Iterator.Search.{position_from_yields_List}
use Rattle.text.proofs.TextLaws.{place_is, place_or}
use Rattle.text.proofs.find.Goals as goal

pub returns : goal.returns
returns c =
    let t = c.args.t.now in
    let p = position_from_yields_List (λ x. eqb x c.args.b) _ _ c.position.result c.position.ensures.ran (YieldsList-from_slice t cc) (λ x b q k. search (rules, tests)) in
    rw (c.unwrap_or.ensures, p, place_is c.args.b t) (place_or c.args.b t)
