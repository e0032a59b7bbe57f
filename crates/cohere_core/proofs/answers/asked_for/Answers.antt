use Rattle.std.proofs.Common.{◌∙◌, ℕ, List, Some, ap, sym}
use Rattle.std.specs.Prelude.{option_map}
use Rattle.recolour_bench.specs.Edits as edits
use Rattle.recolour_bench.specs.Steps as steps
use Rattle.cohere_core.specs.Answer.{move_of}
use Rattle.cohere_core.proofs.answers.asked_for.Goals as goal

pub returns-in-Fuse : goal.returns-in-Fuse
returns-in-Fuse c = ap (move_of c.args.products.now) c.in-Fuse.is ∙ ap (λ (string : List ℕ). Some (steps.edits (edits.Fuse string))) (sym c.as_slice.ensures)

pub returns-in-Direct : goal.returns-in-Direct
returns-in-Direct c = ap (move_of c.args.products.now) c.in-Direct.is ∙ ap (option_map (λ other. steps.edits (edits.Direct other))) c.first_of.ensures

pub returns-in-Wreath : goal.returns-in-Wreath
returns-in-Wreath c = ap (move_of c.args.products.now) c.in-Wreath.is ∙ ap (option_map (λ other. steps.edits (edits.Wreath other))) c.first_of-in-Wreath.ensures
