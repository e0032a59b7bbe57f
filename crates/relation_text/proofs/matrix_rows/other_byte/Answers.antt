use Rattle.std.proofs.Common.{rules, tests}
use Rattle.std.specs.Prelude.{not}
use Rattle.std.proofs.lemmas.Iterator.{YieldsList-from_slice}
use Rattle.std.proofs.lemmas.Iterator.Search.{position_from_yields_List}
use Rattle.relation_text.specs.Faults.{is_row_byte}
use Rattle.relation_text.proofs.AnyLemmas.{found_first}
use Rattle.relation_text.proofs.matrix_rows.other_byte.Goals as goal

pub returns-clause-none : goal.returns-clause-none
returns-clause-none c = (found_first (λ b. not (is_row_byte b)) c.args.row.now c.position.result
    (position_from_yields_List (λ b. not (is_row_byte b)) _ _ c.position.result c.position.ensures.ran (YieldsList-from_slice c.args.row.now cc) (λ x b q k. search (rules, tests)))).0

pub returns-clause-first : goal.returns-clause-first
returns-clause-first c = (found_first (λ b. not (is_row_byte b)) c.args.row.now c.position.result
    (position_from_yields_List (λ b. not (is_row_byte b)) _ _ c.position.result c.position.ensures.ran (YieldsList-from_slice c.args.row.now cc) (λ x b q k. search (rules, tests)))).1
