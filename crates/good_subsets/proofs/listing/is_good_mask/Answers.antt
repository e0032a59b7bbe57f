use Rattle.std.proofs.Common.{◌≡◌, ◌↔◌, ◌<◌, All, IfOk, IsTrue, false, true, sym, ap, subst, ◌∙◌}
use Rattle.std.proofs.lemmas.Bool.{both_ways}
use Rattle.pair_colours.specs.Naming.{rank_of}
use Rattle.pair_colours.specs.Subsets.{IsSetBelow}
use Rattle.visitors.specs.Masks.{members_of}
use Rattle.good_subsets.specs.GoodSets.{IsGood}
use Rattle.good_subsets.proofs.GoodMasks.{square_constant}
use Rattle.good_subsets.proofs.MaskBits.{IsSetBelow-members}
use Rattle.good_subsets.proofs.listing.is_good_mask.Goals as goal

pub square_is_constant-requires-clause-set : goal.square_is_constant-requires-clause-set
square_is_constant-requires-clause-set c =
    let K = c.args.k.now in
    let same : c.deref.result.now ≡ members_of (rank_of K) c.args.mask = c.deref.ensures.value ∙ c.in_ok-list_colours.ensures ∙ ap (λ n. members_of n c.args.mask) c.rank.ensures.value in
    subst (λ s. All (λ j. j < rank_of K) s) (sym same) (IsSetBelow-members (rank_of K) c.args.mask).below

pub returns-then-not-square_is_constant : goal.returns-then-not-square_is_constant
returns-then-not-square_is_constant c =
    let K = c.args.k.now in
    let same : c.deref.result.now ≡ members_of (rank_of K) c.args.mask = c.deref.ensures.value ∙ c.in_ok-list_colours.ensures ∙ ap (λ n. members_of n c.args.mask) c.rank.ensures.value in (
      λ t. let z : false ≡ true = t in cc,
      λ g. absurd (both_ways _ c.if-not-square_is_constant.true (c.square_is_constant.ensures (square_constant K c.rank.ensures.configuration c.deref.result.now (subst (IsGood K) (sym same) g)))),
    )

pub is_good-requires : goal.is_good-requires
is_good-requires c =
    let K = c.args.k.now in
    let same : c.deref-2.result.now ≡ members_of (rank_of K) c.args.mask = c.deref-2.ensures.value ∙ c.in_ok-list_colours.ensures ∙ ap (λ n. members_of n c.args.mask) c.rank.ensures.value in
    subst (IsSetBelow (rank_of K)) (sym same) (IsSetBelow-members (rank_of K) c.args.mask)

pub returns : goal.returns
returns c =
    let K = c.args.k.now in
    let same : c.deref-2.result.now ≡ members_of (rank_of K) c.args.mask = c.deref-2.ensures.value ∙ c.in_ok-list_colours.ensures ∙ ap (λ n. members_of n c.args.mask) c.rank.ensures.value in
    subst (λ s. IfOk c.is_good.result (λ answer. IsTrue answer ↔ IsGood K s)) same c.is_good.ensures
