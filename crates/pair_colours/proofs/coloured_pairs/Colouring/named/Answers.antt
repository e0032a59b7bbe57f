use Rattle.std.proofs.Common.{◌≡◌, map, sym, ap, subst, ◌∙◌}
use Rattle.std.proofs.lemmas.List.{take_all}
use Rattle.pair_colours.specs.Naming.{name_of}
use Rattle.pair_colours.proofs.Few.{FitsColouring-named_of}
use Rattle.pair_colours.specs.Colouring.{PairColouring, FitsColouring}
use Rattle.pair_colours.proofs.ListReads.{position_at, named_more}
use Rattle.pair_colours.proofs.coloured_pairs.Colouring.named.Goals as goal

pub unreachable-requires : goal.unreachable-requires
unreachable-requires c =
    let A = c.args.self.now in
    let a = (subst FitsColouring c.self.view_is c.self.invariant).colouring in
    let xs = c.deref-colour-items.ensures.value ∙ ap (λ (v : PairColouring). v.colours) c.self.view_is in
    let e = c.get_index_of.ensures.index ∙ position_at A a _ _ xs c.in_ok-met.ensures.keys c.loop-colour.colour-index _ c.loop-colour-test.true in
    cc

pub loop-colour-preserved : goal.loop-colour-preserved
loop-colour-preserved c =
    let A = c.args.self.now in
    let a = (subst FitsColouring c.self.view_is c.self.invariant).colouring in
    let xs = c.deref-colour-items.ensures.value ∙ ap (λ (v : PairColouring). v.colours) c.self.view_is in
    let e = c.get_index_of.ensures.index ∙ position_at A a _ _ xs c.in_ok-met.ensures.keys c.loop-colour.colour-index _ c.loop-colour-test.true in
    named_more A c.deref-colour-items.result.now c.loop-colour.colour-index _ c.in-Some.name c.loop-colour.colours.items c.push.new.self.items c.get_index_of.result
    c.loop-colour-test.true c.loop-colour.invariant e c.in-Some.is c.in_ok-push-in-Some.ensures.items

pub invariant_of-result : goal.invariant_of-result
invariant_of-result c =
    let A = c.args.self.now in
    let h = subst FitsColouring c.self.view_is c.self.invariant in
    let xs = c.deref-colour-items.ensures.value ∙ ap (λ (v : PairColouring). v.colours) c.self.view_is in
    let sizes : c.self.inside.size ≡ A.size = ap (λ (v : PairColouring). v.size) c.self.view_is in
    let colours = c.loop-colour.invariant ∙ ap (map (name_of A)) (take_all c.loop-colour.colour-index c.deref-colour-items.result.now c.loop-colour-test.false ∙ xs) in
    subst FitsColouring (λ i. record { size = sym sizes i; colours = sym colours i }) (FitsColouring-named_of A h)
