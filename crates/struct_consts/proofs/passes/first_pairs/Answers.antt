use Rattle.std.proofs.Common.{◌≡◌, ◌<◌, ℕ, List, Option, get_or, set, Some, None, unwrap_or, ap, ◌∙◌, arith}
use Rattle.std.proofs.lemmas.List.{get_or_default}
use Rattle.pair_colours.proofs.FirstPair.{first_on}
use Rattle.pair_colours.proofs.WalkPlaces.{walked}
use Rattle.struct_consts.proofs.PassLemmas.{first_more}
use Rattle.struct_consts.proofs.passes.first_pairs.Goals as goal

pub loop-place-preserved : goal.loop-place-preserved
loop-place-preserved c =
    let p = c.pair_on_walk-x.result in
    let pairs : List (Option (ℕ × ℕ)) = c.loop-place.pairs.items in
    let colour = c.get-colour.result in
    let known : colour < c.args.rank = omega (arith, c.requires.below p.0 p.1 (omega arith) (omega arith), c.get-colour.ensures) in
    let at : c.index.result.now ≡ get_or pairs colour None = c.index.ensures ∙ get_or_default pairs colour c.index.result.now None (omega (arith, known, c.loop-place.invariant.len)) in
    first_more c.args.k.now c.args.rank c.size-size.result c.loop-place.place colour p pairs (set pairs colour (Some c.unwrap_or.result)) c.size-size.ensures.points c.pair_on_walk-x.ensures.pair
    c.get-colour.ensures known (ap (λ o. set pairs colour (Some o)) (c.unwrap_or.ensures ∙ ap (λ o. unwrap_or o p) at)) c.loop-place.invariant

pub returns : goal.returns
returns c =
    let K = c.args.k.now in
    let whole = walked K.size c.size-size.result c.loop-place.place c.size-size.ensures.points (omega arith) in
    record { len = c.loop-place.invariant.len; each = λ k m. c.loop-place.invariant.each k m ∙ ap (first_on K k) whole }
