use Rattle.std.proofs.Common.{sym, ap, ◌∙◌}
use Rattle.pair_colours.specs.Colouring.{PairColouring}
use Rattle.pair_colours.proofs.FirstPair.{first_on, first_found, first_later, no_colour}
use Rattle.pair_colours.proofs.WalkPlaces.{walked}
use Rattle.pair_colours.proofs.coloured_pairs.Colouring.first_pair.Goals as goal

pub returns-then-get-colour-clause-first : goal.returns-then-get-colour-clause-first
returns-then-get-colour-clause-first c =
    first_found c.args.self.now c.args.colour c.self.inside.size c.loop-place.place c.pair_on_walk-x.result (ap (λ (v : PairColouring). v.size) c.self.view_is)
    c.loop-place.invariant c.pair_on_walk-x.ensures.pair (sym c.get.ensures ∙ c.if-get-colour.true)

pub loop-place-preserved : goal.loop-place-preserved
loop-place-preserved c =
    first_later c.args.self.now c.args.colour c.self.inside.size c.loop-place.place c.pair_on_walk-x.result (ap (λ (v : PairColouring). v.size) c.self.view_is)
    c.loop-place.invariant c.pair_on_walk-x.ensures.pair (λ e. c.if-get-colour.false (c.get.ensures ∙ e))

pub returns-clause-first : goal.returns-clause-first
returns-clause-first c =
    let A = c.args.self.now in
    sym c.loop-place.invariant ∙ ap (first_on A c.args.colour) (walked A.size c.self.inside.size c.loop-place.place (ap (λ (v : PairColouring). v.size) c.self.view_is) c.loop-place-test.false)

pub returns-clause-none : goal.returns-clause-none
returns-clause-none c =
    let A = c.args.self.now in
    no_colour A c.args.colour
    (sym (ap (first_on A c.args.colour) (walked A.size c.self.inside.size c.loop-place.place (ap (λ (v : PairColouring). v.size) c.self.view_is) c.loop-place-test.false))
    ∙ c.loop-place.invariant)
