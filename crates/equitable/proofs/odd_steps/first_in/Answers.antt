use Rattle.std.proofs.Common.{eqb, rules, tests}
use Rattle.std.proofs.lemmas.Iterator.{YieldsList-from_slice}
use Rattle.std.proofs.lemmas.Iterator.Search.{position_from_yields_List}
use Rattle.text_lines.proofs.FirstPlace.{first_place}
use Rattle.equitable.proofs.odd_steps.first_in.Goals as goal

pub returns : goal.returns
returns c = first_place (λ other. eqb other c.args.cell) c.args.cells.now c.unwrap_or.result c.position.result c.unwrap_or.ensures
    (position_from_yields_List (λ other. eqb other c.args.cell) _ _ c.position.result c.position.ensures.ran
    (YieldsList-from_slice c.args.cells.now cc) (λ x b q k. search (rules, tests)))
