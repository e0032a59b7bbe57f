use Rattle.std.proofs.Common.{◌≡◌, IsTrue, sym, ap, subst, ◌∙◌, ◌↔◌, arith}
use Rattle.std.proofs.lemmas.Result.{IfOk-weaker}
use Rattle.pair_colours.specs.Colouring.{PairColouring, FitsColouring, Refines}
use Rattle.pair_colours.specs.Lists.{Determines}
use Rattle.pair_colours.proofs.ListReads.{Refines-from_lists, Determines-from_refines}
use Rattle.pair_colours.proofs.coloured_pairs.Colouring.refines.Goals as goal

pub returns : goal.returns
returns c =
    let A = c.args.self.now in
    let B = c.args.other.now in
    let a = (subst FitsColouring c.self.view_is c.self.invariant).colouring in
    let xs : c.deref.result.now ≡ A.colours = c.deref.ensures.value ∙ ap (λ (v : PairColouring). v.colours) c.self.view_is in
    let ys : c.deref-2.result.now ≡ B.colours = c.deref-2.ensures.value ∙ ap (λ (v : PairColouring). v.colours) c.other.view_is in
    let sizes : A.size ≡ B.size = omega (arith, ap (λ (v : PairColouring). v.size) c.self.view_is, ap (λ (v : PairColouring). v.size) c.other.view_is) in
    IfOk-weaker c.determines.result
    (λ answer. IsTrue answer ↔ Determines c.deref.result.now c.deref-2.result.now)
    (λ answer. IsTrue answer ↔ Refines A B)
    (λ answer h. (
      λ t. Refines-from_lists A B a sizes (subst (λ l. Determines l B.colours) xs (subst (λ l. Determines c.deref.result.now l) ys (h.0 t))),
      λ r. h.1 (subst (λ l. Determines l c.deref-2.result.now) (sym xs) (subst (λ l. Determines A.colours l) (sym ys) (Determines-from_refines A B a r))),
    ))
    c.determines.ensures
