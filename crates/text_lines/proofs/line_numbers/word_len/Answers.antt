use Rattle.std.proofs.Common.{eqb, rules, tests}
use Rattle.std.proofs.lemmas.Iterator.{YieldsList-from_slice}
use Rattle.std.proofs.lemmas.Iterator.Search.{position_from_yields_List}
use Rattle.text_lines.proofs.FirstPlace.{first_place}
use Rattle.text_lines.proofs.line_numbers.word_len.Goals as goal

pub returns-clause-len : goal.returns-clause-len
returns-clause-len c = first_place (λ b. eqb b 32) c.args.line.now c.unwrap_or.result c.position.result c.unwrap_or.ensures
    (position_from_yields_List (λ b. eqb b 32) _ _ c.position.result c.position.ensures.ran (YieldsList-from_slice c.args.line.now cc) (λ x b q k. search (rules, tests)))
