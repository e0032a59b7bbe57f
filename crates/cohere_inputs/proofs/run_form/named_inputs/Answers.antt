use Rattle.std.proofs.Common.{refl}
use Rattle.cohere_inputs.specs.Asked.{asked_run}
use Rattle.cohere_inputs.specs.Needs.{relation_need, script_need}
use Rattle.cohere_inputs.proofs.RunFiles.{relation_reached, script_reached, cause_since}
use Rattle.cohere_inputs.proofs.run_form.named_inputs.Goals as goal

pub returns-in-Err-clause-halt : goal.returns-in-Err-clause-halt
returns-in-Err-clause-halt g c =
    let words = c.args.words in
    record {
      need = relation_need words.relation.now words.line;
      is_named = refl;
      reached = relation_reached (g.S.Store.files c.args.store.now) (asked_run words);
      cause = c.in-Err.ensures.cause;
      form = c.in-Err.ensures.form;
    }

pub returns-in-Err-script_in-clause-halt : goal.returns-in-Err-script_in-clause-halt
returns-in-Err-script_in-clause-halt g c =
    let files = g.S.Store.files c.args.store.now in
    let words = c.args.words in
    record {
      need = script_need words.script.now;
      is_named = refl;
      reached = script_reached files (asked_run words) c.in-Ok.relation c.in-Ok.ensures.read;
      cause = cause_since files (g.S.Store.files c.relation_in.new.store) (script_need words.script.now) c.in-Err-script_in.why _ _ _
          c.in-Ok.ensures.same_files c.in-Ok.ensures.later c.in-Err-script_in.ensures.cause;
      form = c.in-Err-script_in.ensures.form;
    }
