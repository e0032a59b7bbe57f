use Rattle.std.proofs.Common.{◌≡◌, length, sym, ap, subst, ◌∙◌}
use Rattle.std.proofs.lemmas.Result.{IfOk-weaker}
use Rattle.pair_colours.specs.Colouring.{PairColouring, FitsColouring}
use Rattle.pair_colours.specs.Lists.{Determines, IsPaired}
use Rattle.pair_colours.specs.Naming.{named_of, IsNamedMeet}
use Rattle.pair_colours.proofs.Meets.{IsNamedMeet-numbered}
use Rattle.pair_colours.proofs.coloured_pairs.Colouring.meet.Goals as goal

pub returns : goal.returns
returns c =
    let A = c.args.self.now in
    let B = c.args.other.now in
    let a = subst FitsColouring c.self.view_is c.self.invariant in
    let b = subst FitsColouring c.other.view_is c.other.invariant in
    let xs : c.deref.result.now ≡ A.colours = c.deref.ensures.value ∙ ap (λ (v : PairColouring). v.colours) c.self.view_is in
    let ys : c.deref-2.result.now ≡ B.colours = c.deref-2.ensures.value ∙ ap (λ (v : PairColouring). v.colours) c.other.view_is in
    let codes = c.in_ok-codes.codes.items in
    let M : PairColouring = record { size = c.self.inside.size; colours = c.in_ok-numbers_of.field-0.items } in
    let read = c.deref-3.ensures.value in
    IfOk-weaker c.named.result (λ k. k ≡ named_of M) (λ k. IsNamedMeet A B k)
    (λ k e. subst (IsNamedMeet A B) (sym e)
    (IsNamedMeet-numbered A B M codes a b c.requires (ap (λ (v : PairColouring). v.size) c.self.view_is)
    (c.in_ok-numbers_of.ensures.len ∙ ap length read ∙ c.in_ok-codes.ensures.len ∙ ap length xs)
    (c.in_ok-codes.ensures.len ∙ ap length xs)
    (subst (λ l. IsPaired l B.colours codes) xs (subst (λ l. IsPaired c.deref.result.now l codes) ys c.in_ok-codes.ensures.code))
    (subst (Determines M.colours) read c.in_ok-numbers_of.ensures.apart)
    (subst (λ l. Determines l M.colours) read c.in_ok-numbers_of.ensures.together)))
    c.named.ensures
