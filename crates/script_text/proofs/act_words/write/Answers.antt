use Rattle.script_text.proofs.ActWords.{forms_behind, write_words}
use Rattle.script_text.proofs.act_words.write.Goals as goal

pub returns-clause-ok : goal.returns-clause-ok
returns-clause-ok c = rw c.graph_form-form.ensures (write_words c.args.words.now _ c.in_ok-set.set c.requires.known c.requires.count (forms_behind c.args.words.now 1 _ c.in_ok-set.ensures.ok))
