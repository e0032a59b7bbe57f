use Rattle.std.proofs.Common.{◌≡◌, ◌∙◌, sym, subst, Some, None}
use Rattle.recolour_bench.specs.Recolouring.{least_unused, IsLeastUnused}
use Rattle.recolour_bench.proofs.Unused.{first_unset-least, IsLeastUnused-least_unused}
use Rattle.recolour_bench.proofs.recolouring.unused_number.Goals as goal

pub unreachable-requires : goal.unreachable-requires
unreachable-requires c =
    let is = first_unset-least c.args.colouring.now c.in_ok-used.ensures.within.colouring c.in_ok-used.used.items c.deref.result.now c.first_unset.result
    c.in_ok-used.ensures.len c.in_ok-used.ensures.used c.deref.ensures.value c.first_unset.ensures in
    let z : None ≡ Some (least_unused c.args.colouring.now) = sym c.in-None.is ∙ is in
    cc

pub returns-clause-number : goal.returns-clause-number
returns-clause-number c =
    let is = first_unset-least c.args.colouring.now c.in_ok-used.ensures.within.colouring c.in_ok-used.used.items c.deref.result.now c.first_unset.result
    c.in_ok-used.ensures.len c.in_ok-used.ensures.used c.deref.ensures.value c.first_unset.ensures in
    let z : Some c.in-Some.number ≡ Some (least_unused c.args.colouring.now) = sym c.in-Some.is ∙ is in
    cc

pub returns-clause-least : goal.returns-clause-least
returns-clause-least c =
    let is = first_unset-least c.args.colouring.now c.in_ok-used.ensures.within.colouring c.in_ok-used.used.items c.deref.result.now c.first_unset.result
    c.in_ok-used.ensures.len c.in_ok-used.ensures.used c.deref.ensures.value c.first_unset.ensures in
    let z : Some c.in-Some.number ≡ Some (least_unused c.args.colouring.now) = sym c.in-Some.is ∙ is in
    let number : c.in-Some.number ≡ least_unused c.args.colouring.now = cc in
    subst (IsLeastUnused c.args.colouring.now) (sym number) (IsLeastUnused-least_unused c.args.colouring.now c.in_ok-used.ensures.within.colouring)
