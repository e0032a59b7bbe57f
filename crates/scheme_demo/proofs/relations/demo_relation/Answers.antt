use Rattle.std.proofs.Common.{◌≡◌, sym, subst, ◌∙◌, arith}
use Rattle.pair_colours.specs.Colouring.{IsRawColouring, colour_at}
use Rattle.scheme_demo.specs.Demonstration.{demo_relation_of}
use Rattle.scheme_demo.proofs.Filling.{filled_start, filled_more, filled_all}
use Rattle.scheme_demo.proofs.DemoRows.{size_is, colour_at-demo, demo_relation_is_colouring, demo_relation_is_raw}
use Rattle.scheme_demo.proofs.relations.demo_relation.Goals as goal

pub loop-x-init : goal.loop-x-init
loop-x-init c =
    let number = c.args.number in
    filled_start (demo_relation_of number) c.in_ok-relation.relation c.size_of-size.result _ 0 (demo_relation_is_colouring number)
    (size_is number ∙ sym c.size_of-size.ensures) c.in_ok-relation.ensures.points c.in_ok-relation.ensures.filled (omega arith)

pub set-requires-clause-row : goal.set-requires-clause-row
set-requires-clause-row c = omega (arith, size_is c.args.number)

pub set-requires-clause-column : goal.set-requires-clause-column
set-requires-clause-column c = omega (arith, size_is c.args.number)

pub loop-y-preserved : goal.loop-y-preserved
loop-y-preserved c =
    let number = c.args.number in
    let x = c.loop-x.x in
    let y = c.loop-y.y in
    let is : colour_at (demo_relation_of number) x y ≡ c.colour_of.result =
    colour_at-demo number x y (omega arith) (omega arith) ∙ sym c.colour_of.ensures in
    filled_more (demo_relation_of number) c.loop-y.relation c.set.new.self c.size_of-size.result x y _ _ (demo_relation_is_colouring number)
    (size_is number ∙ sym c.size_of-size.ensures) c.loop-y.invariant c.loop-x-test.true c.loop-y-test.true (omega arith)
    c.set.ensures.points c.set.ensures.changed is

pub returns-clause-demo : goal.returns-clause-demo
returns-clause-demo c =
    let number = c.args.number in
    filled_all (demo_relation_of number) c.loop-x.relation c.size_of-size.result c.loop-x.x (demo_relation_is_colouring number)
    (size_is number ∙ sym c.size_of-size.ensures) c.loop-x.invariant c.loop-x-test.false

pub returns-clause-raw : goal.returns-clause-raw
returns-clause-raw c = subst IsRawColouring (sym (returns-clause-demo c)) (demo_relation_is_raw c.args.number)
