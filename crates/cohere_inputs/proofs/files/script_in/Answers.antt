use Rattle.std.proofs.Common.{ℕ, List, subst}
use Rattle.script_text.specs.Script.{IsScript}
use Rattle.cohere_inputs.proofs.ReadFiles.{script_file}
use Rattle.cohere_inputs.proofs.files.script_in.Goals as goal

pub returns-clause-text : goal.returns-clause-text
returns-clause-text g c = record {
  text = c.in_ok-bytes.bytes.items;
  short = c.in_ok-bytes.ensures.short;
  reads = subst (λ (t : List ℕ). IsScript t c.in_ok-read_script.field-0.items) c.deref.ensures.value c.in_ok-read_script.ensures.script;
}

pub returns-clause-read : goal.returns-clause-read
returns-clause-read g c =
    script_file (g.S.Store.files c.args.store.now) c.args.name.now c.in_ok-bytes.bytes.items c.deref.result.now c.in_ok-read_script.field-0.items
    c.deref.ensures.value c.in_ok-bytes.ensures.found c.in_ok-bytes.ensures.short c.in_ok-read_script.ensures.script
