use Rattle.std.proofs.Common.{◌≡◌, ◌++◌, ◌∷◌, [], get_or, map, take, sym, ◌∙◌}
use Rattle.std.proofs.lemmas.List.{map_more}
use Rattle.pair_colours.specs.ColourSets.{is_in}
use Rattle.drg_arrays.proofs.graph.chosen.Goals as goal

pub loop-colour-preserved : goal.loop-colour-preserved
loop-colour-preserved c =
    let set = c.args.set.now in
    let i = c.loop-colour.colour-index in
    let x = get_or c.args.colours.now i 0 in
    let bit : c.contains.result ≡ is_in set x = c.contains.ensures ∙ (λ j. c.in_ok-members.ensures j x) in
    let old = map (is_in set) (take i c.args.colours.now) in
    let more : c.loop-colour.edges.items ++ c.contains.result ∷ [] ≡ old ++ is_in set x ∷ [] = λ j. c.loop-colour.invariant j ++ bit j ∷ [] in
    c.in_ok-push.ensures.items ∙ more ∙ sym (map_more (is_in set) c.args.colours.now i 0 c.loop-colour-test.true)
