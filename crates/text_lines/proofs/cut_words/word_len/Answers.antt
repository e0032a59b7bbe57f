use Rattle.std.proofs.Common.{rules, tests}
use Rattle.std.proofs.lemmas.Iterator.{YieldsList-from_slice}
use Rattle.std.proofs.lemmas.Iterator.Search.{position_from_yields_List}
use Rattle.text_lines.specs.Words.{is_blank_byte}
use Rattle.text_lines.proofs.FirstPlace.{first_place}
use Rattle.text_lines.proofs.cut_words.word_len.Goals as goal

pub returns-clause-len : goal.returns-clause-len
returns-clause-len c = first_place (is_blank_byte) c.args.text.now c.unwrap_or.result c.position.result c.unwrap_or.ensures
    (position_from_yields_List (is_blank_byte) _ _ c.position.result c.position.ensures.ran (YieldsList-from_slice c.args.text.now cc) (λ x b q k. search (rules, tests)))
