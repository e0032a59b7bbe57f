use Rattle.std.proofs.Common.{◌≡◌, ◌⊎◌, ⊎_elim, Bor, inl, inr, sym, ap, ◌∙◌}
use Rattle.pair_colours.specs.Colouring.{PairColouring}
use Rattle.recolour_bench.specs.declared.edits.Edit as program
use Rattle.recolour_bench.specs.declared.edits.Edit.TheVariants as given
use Rattle.recolour_bench.specs.Edits.{Direct, Wreath, edit_of}
use Rattle.recolour_bench.proofs.ProductEdits.{IsProductWith, IsRefusedAt-product}
use Rattle.recolour_bench.proofs.making.next_by.Goals as goal
use Rattle.recolour_bench.proofs.making.next_by.Goals.{in-Direct, in-Direct-2}

-- the edit that the arm matches
product_of : (e : program.Edit) (other named : Bor PairColouring) → named ≡ other → (e ≡ given.Direct other) ⊎ (e ≡ given.Wreath other) → IsProductWith named.now (edit_of e)
product_of e other named same is =
    ⊎_elim
    (λ d. inl (ap edit_of d ∙ ap (λ (o : Bor PairColouring). Direct o.now) (sym same)))
    (λ w. inr (ap edit_of w ∙ ap (λ (o : Bor PairColouring). Wreath o.now) (sym same)))
    is

pub returns-in-Some-clause-refused : goal.returns-in-Some-clause-refused
returns-in-Some-clause-refused c = λ _.
    let is : IsProductWith c.in-Direct-1.other.now (edit_of c.args.edit.now) =
    elim c.in-Direct-1.branch [
      | in-Direct w ↦ product_of c.args.edit.now w.in-Direct.other c.in-Direct-1.other w.other-is w.in-Direct.is
      | in-Direct-2 w ↦ product_of c.args.edit.now w.in-Direct.other c.in-Direct-1.other w.other-is w.in-Direct.is
    ] in
    IsRefusedAt-product c.args.raw.now c.args.closure.now c.in-Direct-1.other.now c.args.position (edit_of c.args.edit.now) c.in-Some.fault c.requires.within c.requires.closure is
    (sym c.product_refusal.ensures ∙ c.in-Some.is)

pub next_with-requires-in-Direct-clause-closure : goal.next_with-requires-in-Direct-clause-closure
next_with-requires-in-Direct-clause-closure c = c.requires.closure

pub returns-in_default : goal.returns-in_default
returns-in_default c = c.next_with.ensures

pub returns-in_ok-closed-in-Direct-clause-made : goal.returns-in_ok-closed-in-Direct-clause-made
returns-in_ok-closed-in-Direct-clause-made c = c.next_with-in-Direct.ensures.made
