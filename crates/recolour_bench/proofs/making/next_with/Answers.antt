use Rattle.std.proofs.Common.{◌≡◌, ◌==◌, [], ◌∷◌, None, sym, ◌∙◌}
use Rattle.recolour_bench.specs.declared.edits.EditFault.TheVariants.{HistoryFull}
use Rattle.recolour_bench.specs.declared.history.TheConstants.{MOST_POSITION}
use Rattle.recolour_bench.specs.Edits.{edit_of}
use Rattle.recolour_bench.specs.Steps.{edit_tests, edit_refusal}
use Rattle.recolour_bench.proofs.RawEdits.{first_that_holds-append}
use Rattle.recolour_bench.proofs.Keeping.{none_from_not}
use Rattle.recolour_bench.proofs.making.next_with.Goals as goal

pub returns-in-Some-clause-refused : goal.returns-in-Some-clause-refused
returns-in-Some-clause-refused c = λ _. record {
  closure = c.args.closure.now;
  is_closure = c.requires.closure;
  factor = c.args.factor.now;
  is_factor = c.requires.factor;
  refusal = sym c.in_ok-refusal.ensures ∙ c.in-Some.is;
}

pub edited_by-requires-clause-own : goal.edited_by-requires-clause-own
edited_by-requires-clause-own c =
    let allowed : edit_refusal c.args.raw.now c.args.closure.now c.args.factor.now c.args.position (edit_of c.args.edit.now) ≡ None =
    sym c.in_ok-refusal.ensures ∙ none_from_not c.in_ok-refusal.refusal c.in_default.not-Some in
    (first_that_holds-append (edit_tests c.args.raw.now c.args.closure.now c.args.factor.now (edit_of c.args.edit.now)) ((c.args.position == MOST_POSITION, HistoryFull) ∷ []) allowed).0

pub returns-clause-made : goal.returns-clause-made
returns-clause-made c = record {
  closure = c.args.closure.now;
  is_closure = c.requires.closure;
  factor = c.args.factor.now;
  is_factor = c.requires.factor;
  allowed = sym c.in_ok-refusal.ensures ∙ none_from_not c.in_ok-refusal.refusal c.in_default.not-Some;
  edited = c.in_ok-edited_by.ensures.edited;
}
