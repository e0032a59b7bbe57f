use Rattle.std.proofs.Common.{◌≡◌, ◌++◌, None, Result, IfOk, true, false, sym, ap, subst, ◌∙◌}
use Rattle.std.proofs.lemmas.Bool.{false≢true}
use Rattle.std.proofs.lemmas.Result.{IfOk-weaker}
use Rattle.pair_colours.specs.Colouring.{PairColouring}
use Rattle.pair_colours.specs.Closure.{IsClosureOf}
use Rattle.pair_colours.specs.Tests.{first_that_holds}
use Rattle.pair_colours.specs.Fibres.{HasOneFibre}
use Rattle.recolour_bench.specs.declared.edits.Edit as program
use Rattle.recolour_bench.specs.Edits.{edit_of, makes_closure}
use Rattle.recolour_bench.specs.Recolouring.{IsEdited}
use Rattle.recolour_bench.specs.Steps.{string_tests, product_tests, fibre_tests, edit_tests}
use Rattle.recolour_bench.proofs.RawEdits.{IsConfiguration-closure, first_that_holds-append, string_grows, factors_have_one}
use Rattle.recolour_bench.proofs.Merging.{HasColoursBelow-string}
use Rattle.recolour_bench.proofs.recolouring.edited_by.Goals as goal
use Rattle.recolour_bench.proofs.recolouring.edited_by.Goals.{In-Wreath}

pub merged-requires : goal.merged-requires
merged-requires c =
    let K = c.args.closure.now in
    let allowed : first_that_holds (string_tests K c.in-Fuse.string.now) ≡ None = subst (λ e. first_that_holds (edit_tests c.args.raw.now K c.args.factor.now e) ≡ None) (ap edit_of c.in-Fuse.is) c.requires.own in
    HasColoursBelow-string K c.in-Fuse.string.now (IsConfiguration-closure _ K c.requires.closure) (string_grows K c.in-Fuse.string.now allowed).len

-- both factors of an allowed wreath product have one fibre
fibres : (c : In-Wreath) → HasOneFibre c.args.closure.now × HasOneFibre c.args.factor.now
fibres c =
    let C = c.args.raw.now in
    let K = c.args.closure.now in
    let L = c.args.factor.now in
    let allowed : first_that_holds (product_tests C c.in-Wreath.other.now ++ fibre_tests K L) ≡ None = subst (λ e. first_that_holds (edit_tests C K L e) ≡ None) (ap edit_of c.in-Wreath.is) c.requires.own in
    factors_have_one K L (first_that_holds-append (product_tests C c.in-Wreath.other.now) (fibre_tests K L) allowed).1

pub with_wreath-requires-clause-left_fibre : goal.with_wreath-requires-clause-left_fibre
with_wreath-requires-clause-left_fibre c = (fibres (goal.at.with_wreath-requires-clause-left_fibre c).In-Wreath).0

pub with_wreath-requires-clause-right_fibre : goal.with_wreath-requires-clause-right_fibre
with_wreath-requires-clause-right_fibre c = (fibres (goal.at.with_wreath-requires-clause-right_fibre c).In-Wreath).1

-- these edits make no closure
no_closure : {E : Type 0} (e : program.Edit) (r : Result PairColouring E) (P : PairColouring → Type 0) → makes_closure (edit_of e) ≡ false → IfOk r P → IfOk r (λ next. makes_closure (edit_of e) ≡ true → IsClosureOf next next)
no_closure e r P none h = IfOk-weaker r P (λ next. makes_closure (edit_of e) ≡ true → IsClosureOf next next) (λ next _ yes. absurd (false≢true (sym none ∙ yes))) h

pub returns-in-Set-clause-edited : goal.returns-in-Set-clause-edited
returns-in-Set-clause-edited c = subst (λ (e : program.Edit). IfOk c.with_pair.result (IsEdited c.args.raw.now c.args.closure.now c.args.factor.now (edit_of e))) (sym c.in-Set.is) c.with_pair.ensures

pub returns-in-Set-clause-closed : goal.returns-in-Set-clause-closed
returns-in-Set-clause-closed c = no_closure c.args.edit.now c.with_pair.result _ (ap (λ (e : program.Edit). makes_closure (edit_of e)) c.in-Set.is) c.with_pair.ensures

pub returns-in-Both-clause-edited : goal.returns-in-Both-clause-edited
returns-in-Both-clause-edited c = subst (λ (e : program.Edit). IfOk c.with_both.result (IsEdited c.args.raw.now c.args.closure.now c.args.factor.now (edit_of e))) (sym c.in-Both.is) c.with_both.ensures

pub returns-in-Both-clause-closed : goal.returns-in-Both-clause-closed
returns-in-Both-clause-closed c = no_closure c.args.edit.now c.with_both.result _ (ap (λ (e : program.Edit). makes_closure (edit_of e)) c.in-Both.is) c.with_both.ensures

pub returns-in-Fix-clause-edited : goal.returns-in-Fix-clause-edited
returns-in-Fix-clause-edited c = subst (λ (e : program.Edit). IfOk c.with_fixed.result (IsEdited c.args.raw.now c.args.closure.now c.args.factor.now (edit_of e))) (sym c.in-Fix.is) c.with_fixed.ensures

pub returns-in-Fix-clause-closed : goal.returns-in-Fix-clause-closed
returns-in-Fix-clause-closed c = no_closure c.args.edit.now c.with_fixed.result _ (ap (λ (e : program.Edit). makes_closure (edit_of e)) c.in-Fix.is) c.with_fixed.ensures

pub returns-in-Join-clause-edited : goal.returns-in-Join-clause-edited
returns-in-Join-clause-edited c = subst (λ (e : program.Edit). IfOk c.joined.result (IsEdited c.args.raw.now c.args.closure.now c.args.factor.now (edit_of e))) (sym c.in-Join.is) c.joined.ensures

pub returns-in-Join-clause-closed : goal.returns-in-Join-clause-closed
returns-in-Join-clause-closed c = no_closure c.args.edit.now c.joined.result _ (ap (λ (e : program.Edit). makes_closure (edit_of e)) c.in-Join.is) c.joined.ensures

pub returns-in-Fuse-clause-edited : goal.returns-in-Fuse-clause-edited
returns-in-Fuse-clause-edited c = subst (λ (e : program.Edit). IfOk c.merged.result (IsEdited c.args.raw.now c.args.closure.now c.args.factor.now (edit_of e))) (sym c.in-Fuse.is) c.merged.ensures

pub returns-in-Fuse-clause-closed : goal.returns-in-Fuse-clause-closed
returns-in-Fuse-clause-closed c = no_closure c.args.edit.now c.merged.result _ (ap (λ (e : program.Edit). makes_closure (edit_of e)) c.in-Fuse.is) c.merged.ensures

pub returns-in-Adopt-clause-edited : goal.returns-in-Adopt-clause-edited
returns-in-Adopt-clause-edited c = subst (λ (e : program.Edit). IfOk c.copy.result (IsEdited c.args.raw.now c.args.closure.now c.args.factor.now (edit_of e))) (sym c.in-Adopt.is) c.copy.ensures.copy

pub returns-in-Direct-clause-edited : goal.returns-in-Direct-clause-edited
returns-in-Direct-clause-edited c = subst (λ (e : program.Edit). IfOk c.with_direct.result (IsEdited c.args.raw.now c.args.closure.now c.args.factor.now (edit_of e))) (sym c.in-Direct.is) c.with_direct.ensures.product

pub returns-in-Wreath-clause-edited : goal.returns-in-Wreath-clause-edited
returns-in-Wreath-clause-edited c = subst (λ (e : program.Edit). IfOk c.with_wreath.result (IsEdited c.args.raw.now c.args.closure.now c.args.factor.now (edit_of e))) (sym c.in-Wreath.is) c.with_wreath.ensures.product
