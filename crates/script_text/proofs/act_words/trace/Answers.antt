use Rattle.script_text.proofs.ActWords.{trace_words}
use Rattle.script_text.proofs.act_words.trace.Goals as goal

pub returns : goal.returns
returns c = trace_words c.args.words.now _ c.requires.known c.requires.count c.trace_version.ensures
