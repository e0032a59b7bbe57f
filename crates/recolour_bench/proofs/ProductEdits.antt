-- Edits that are products, and what the program finds of their factors.
use Rattle.std.proofs.Common.{◌≡◌, ◌==◌, ◌⊎◌, ⊎_elim, ℕ, ◌++◌, [], ◌∷◌, Some, sym, ap, subst, ◌∙◌}
use Rattle.pair_colours.specs.Colouring.{PairColouring, IsColouring, IsRawColouring}
use Rattle.pair_colours.specs.Closure.{IsClosureOf}
use Rattle.pair_colours.specs.Tests.{first_that_holds}
use Rattle.pair_colours.proofs.LawProofs.{named_closure_exists}
use Rattle.recolour_bench.specs.declared.edits.EditFault.{EditFault}
use Rattle.recolour_bench.specs.declared.edits.EditFault.TheVariants.{HistoryFull}
use Rattle.recolour_bench.specs.declared.history.TheConstants.{MOST_POSITION}
use Rattle.recolour_bench.specs.Edits.{Edit, Direct, Wreath, IsRawEdit, factor_of}
use Rattle.recolour_bench.specs.Steps.{product_tests, fibre_tests, edit_refusal, IsRefusedAt}
use Rattle.recolour_bench.proofs.RawEdits.{first_that_holds-some}

-- the edit is a product with the other colouring
abbrev pub IsProductWith : PairColouring → Edit → Type 0
IsProductWith other e = (e ≡ Direct other) ⊎ (e ≡ Wreath other)

pub factor_of_product : (C other : PairColouring) (e : Edit) → IsProductWith other e → factor_of C e ≡ other
factor_of_product C other e is = ⊎_elim (λ d. ap (factor_of C) d) (λ w. ap (factor_of C) w) is

-- a product with too many points is refused, whatever the closures are
too_many : (C K L other : PairColouring) (position : ℕ) (e : Edit) (fault : EditFault) → IsProductWith other e → first_that_holds (product_tests C other) ≡ Some fault
    → edit_refusal C K L position e ≡ Some fault
too_many C K L other position e fault is holds =
    ⊎_elim
    (λ d. ap (edit_refusal C K L position) d ∙ first_that_holds-some (product_tests C other) ((position == MOST_POSITION, HistoryFull) ∷ []) fault holds)
    (λ w. ap (edit_refusal C K L position) w
    ∙ first_that_holds-some (product_tests C other ++ fibre_tests K L) ((position == MOST_POSITION, HistoryFull) ∷ []) fault (first_that_holds-some (product_tests C other) (fibre_tests K L) fault holds))
    is

-- the other colouring of a product is one
other_is_colouring : (other : PairColouring) (e : Edit) → IsProductWith other e → IsRawEdit e → IsColouring other
other_is_colouring other e is r =
    ⊎_elim
    (λ d. let o : IsRawColouring other = subst IsRawEdit d r in o.fits.colouring)
    (λ w. let o : IsRawColouring other = subst IsRawEdit w r in o.fits.colouring)
    is

pub IsRefusedAt-product : (C K other : PairColouring) (position : ℕ) (e : Edit) (fault : EditFault) → IsRawEdit e → IsClosureOf K C → IsProductWith other e
    → first_that_holds (product_tests C other) ≡ Some fault → IsRefusedAt C position e fault
IsRefusedAt-product C K other position e fault r k is holds =
    let l = named_closure_exists other (other_is_colouring other e is r) in
    record {
      closure = K;
      is_closure = k;
      factor = l.0;
      is_factor = subst (IsClosureOf l.0) (sym (factor_of_product C other e is)) l.1;
      refusal = too_many C K l.0 other position e fault is holds;
    }
