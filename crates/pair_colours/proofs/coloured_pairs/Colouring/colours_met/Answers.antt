use Rattle.std.proofs.Common.{ap, ◌∙◌, subst, arith, length}
use Rattle.pair_colours.specs.Colouring.{PairColouring, FitsColouring}
use Rattle.pair_colours.proofs.Few.{few_met}
use Rattle.pair_colours.proofs.Walked.{met_on, met_more}
use Rattle.pair_colours.proofs.WalkPlaces.{walked}
use Rattle.pair_colours.proofs.coloured_pairs.Colouring.colours_met.Goals as goal

pub loop-place-preserved : goal.loop-place-preserved
loop-place-preserved c =
    met_more c.args.self.now c.self.inside.size c.loop-place.place c.pair_on_walk-x.result.0 c.pair_on_walk-x.result.1 c.get.result c.loop-place.met.keys c.insert.new.self.keys
    (ap (λ (v : PairColouring). v.size) c.self.view_is) c.loop-place.invariant c.pair_on_walk-x.ensures.pair c.get.ensures c.in_ok-insert.ensures.keys

pub returns-clause-keys : goal.returns-clause-keys
returns-clause-keys c =
    let A = c.args.self.now in
    c.loop-place.invariant ∙ ap (met_on A) (walked A.size c.self.inside.size c.loop-place.place (ap (λ (v : PairColouring). v.size) c.self.view_is) c.loop-place-test.false)

pub returns-clause-few : goal.returns-clause-few
returns-clause-few c =
    let A = c.args.self.now in
    let keys = c.loop-place.invariant ∙ ap (met_on A) (walked A.size c.self.inside.size c.loop-place.place (ap (λ (v : PairColouring). v.size) c.self.view_is) c.loop-place-test.false) in
    omega (arith, ap length keys, few_met A (subst FitsColouring c.self.view_is c.self.invariant))
