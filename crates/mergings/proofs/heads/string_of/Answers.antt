use Rattle.std.proofs.Common.{◌≡◌, ◌+◌, ◌<◌, ◌≤◌, suc, [], ◌∷◌, ◌++◌, length, slice_index, sym, ap, subst, ◌∙◌, arith}
use Rattle.colour_wl.specs.GrowthStrings.{next_number, IsGrowth}
use Rattle.colour_wl.proofs.Growth.{next_number-push, IsGrowth-nil, IsGrowth-push}
use Rattle.mergings.specs.Searches.{IsOfHeads}
use Rattle.mergings.proofs.StringsOfHeads.{of_heads_none, of_heads_more, number_low}
use Rattle.mergings.proofs.heads.string_of.Goals as goal
use Rattle.mergings.proofs.heads.string_of.Goals.{then-number-next, else-number-next}

pub loop-colour-init : goal.loop-colour-init
loop-colour-init c = record {
  next = ap next_number (sym c.in_ok-string.ensures.items);
  low = omega arith;
  growth = subst (IsGrowth 0) (sym c.in_ok-string.ensures.items) IsGrowth-nil;
  same = subst (IsOfHeads c.args.heads.now) (sym c.in_ok-string.ensures.items) (of_heads_none c.args.heads.now);
}

pub loop-colour-preserved : goal.loop-colour-preserved
loop-colour-preserved c =
    let heads = c.args.heads.now in
    let string = c.loop-colour.string.items in
    let next = c.loop-colour.next in
    let number = c.number_of-number.result in
    let d = c.loop-colour.colour in
    let h = c.loop-colour.invariant in
    let there = subst (λ s. slice_index heads d < length s → number ≡ slice_index s (slice_index heads d)) c.deref.ensures.value c.number_of-number.ensures.there in
    let fresh = subst (λ s. length s ≤ slice_index heads d → number ≡ next) c.deref.ensures.value c.number_of-number.ensures.fresh in
    let small : number ≤ next = number_low c.args.rank heads c.args.covered string d number next c.requires.heads h.same h.growth.len c.loop-colour-test.true h.next there fresh in
    let more = next_number-push string number in
    let nx : c.if-number-next.next ≡ next_number (string ++ number ∷ []) =
    elim c.if-number-next.branch [
      | then-number-next w ↦ omega (arith, w.next-is, w.if-number-next.true, h.next, more)
      | else-number-next w ↦ omega (arith, w.next-is, w.if-number-next.false, small, h.next, more)
    ] in
    let low : c.if-number-next.next ≤ d + 1 =
    elim c.if-number-next.branch [
      | then-number-next w ↦ omega (arith, w.next-is, h.low)
      | else-number-next w ↦ omega (arith, w.next-is, h.low)
    ] in
    let up : suc d ≡ d + 1 = omega arith in
    record {
      next = nx ∙ ap next_number (sym c.in_ok-push.ensures.items);
      low = low;
      growth = subst (IsGrowth (d + 1)) (sym c.in_ok-push.ensures.items) (subst (λ n. IsGrowth n (string ++ number ∷ [])) up (IsGrowth-push d string number h.growth (omega (arith, small, h.next))));
      same = subst (IsOfHeads heads) (sym c.in_ok-push.ensures.items) (of_heads_more c.args.rank heads c.args.covered string d number next c.requires.heads h.same h.growth.len c.loop-colour-test.true h.next there fresh);
    }

pub returns-clause-growth : goal.returns-clause-growth
returns-clause-growth c =
    let end : c.loop-colour.colour ≡ c.args.rank = omega (arith, c.loop-colour-test.false, c.loop-colour.auto.colour-end) in
    subst (λ n. IsGrowth n c.loop-colour.string.items) end c.loop-colour.invariant.growth
