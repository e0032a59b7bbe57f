-- The output of a run of a script.
use Rattle.std.proofs.Common.{◌≡◌, ℕ, List, Option, Some, None, refl, subst, inl}
use Rattle.std.specs.Prelude.{IfSome}
use Rattle.scheme_io.specs.Files.{Files}
use Rattle.pair_colours.specs.Colouring.{PairColouring}
use Rattle.relation_text.proofs.LawProofs.{reading_is_raw}
use Rattle.script_text.specs.declared.acts.Line.{Line}
use Rattle.cohere_inputs.specs.Task.{Run, RunWords}
use Rattle.cohere_inputs.specs.RunForm.{AreRunInputs}
use Rattle.cohere_inputs.proofs.LawProofs.{inputs_exist, inputs_are_good}
use Rattle.cohere_core.specs.declared.answering.SessionFault.{SessionFault}
use Rattle.cohere_core.specs.declared.status.Status.TheVariants.{Done}
use Rattle.cohere_core.specs.Added.{AddsText, AddsUntil}
use Rattle.cohere_core.specs.Output.{ScriptOutput}
use Rattle.cohere_core.proofs.Endings.{HasFront, HasOutputs, HasWhole}
use Rattle.cohere_core.proofs.ProductLists.{files_are_products}
use Rattle.cohere_core.proofs.Runs.{output_exists}

-- where no file is bad, there is an output
pub run_outputs : (run : RunWords) → HasOutputs (Run run)
run_outputs run given none =
    let read = inputs_exist given run none in
    let relation = read.3.named.relation in
    let raw = reading_is_raw relation.bytes run.line read.0 relation.reads in
    let t = output_exists read.0 read.2 read.1 raw (files_are_products given read.1 read.2 read.3.multiply) in
    (t.0, inl (record { relation = read.0; lines = read.1; products = read.2; inputs = read.3; output = t.1 }))

-- what was written over the lists that were handed on was written over those that were read
pub over_read : (P : List PairColouring → List Line → Type 0) (products more : List PairColouring) (lines seen : List Line) → more ≡ products → seen ≡ lines → P more seen → P products lines
over_read P products more lines seen p l h = subst (λ (some : List PairColouring). P some lines) p (subst (λ (some : List Line). P more some) l h)

pub run_whole : (files : Option Files) (run : RunWords) (C : PairColouring) (lines : List Line) (products : List PairColouring) (old new : Option (List ℕ))
    → IfSome files (λ files. AreRunInputs files run C lines products) → AddsText (ScriptOutput C products lines) old new
    → IfSome files (λ given. HasWhole given (Run run) Done old new)
run_whole None run C lines products old new read added = tt
run_whole (Some files) run C lines products old new read added = record {
  good = inputs_are_good files run C lines products read;
  added = (added.0, record { relation = C; lines = lines; products = products; inputs = read; output = added.1 }, added.2);
  is = refl;
}

pub run_front : (files : Option Files) (run : RunWords) (C : PairColouring) (lines : List Line) (products : List PairColouring) (fault : SessionFault) (old new : Option (List ℕ))
    → IfSome files (λ files. AreRunInputs files run C lines products) → AddsUntil fault (ScriptOutput C products lines) old new
    → IfSome files (λ given. HasFront given (Run run) fault old new)
run_front None run C lines products fault old new read front = tt
run_front (Some files) run C lines products fault old new read front = record {
  good = inputs_are_good files run C lines products read;
  added = record {
    text = front.text;
    count = front.count;
    is = inl (record { relation = C; lines = lines; products = products; inputs = read; output = front.is });
    proper = front.proper;
    added = front.added;
  };
}
