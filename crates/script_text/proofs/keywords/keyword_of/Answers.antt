use Rattle.std.proofs.Common.{bytes_eq, sym, ◌∙◌, rules, tests}
use Rattle.std.proofs.lemmas.Iterator.{YieldsList-from_slice}
use Rattle.std.proofs.lemmas.Iterator.Consumers.{YieldsList-from_copied}
use Rattle.std.proofs.lemmas.Iterator.Adapters.{option_map_id}
use Rattle.std.proofs.lemmas.Iterator.Search.{find_from_yields_List}
use Rattle.script_text.specs.Keyword.{spelling, keywords, keyword_of}
use Rattle.script_text.proofs.keywords.keyword_of.Goals as goal

pub returns : goal.returns
unfolding keyword_of
returns c =
    sym (option_map_id c.find.result)
    ∙ find_from_yields_List (λ keyword. bytes_eq c.args.word.now (spelling keyword)) _ _ c.find.result c.find.ensures.ran (YieldsList-from_copied (YieldsList-from_slice keywords cc)) (λ x b q k. search (rules, tests))
