use Rattle.std.proofs.Common.{◌≡◌, None, subst, ◌∙◌, arith}
use Rattle.pair_colours.specs.Naming.{rank_of, first_pair_of}
use Rattle.struct_consts.proofs.Configurations.{colour_at-below, first_pair_some, first_pair_holds}
use Rattle.struct_consts.proofs.KeptLemmas.{HasData, HasData-push, IsConstants-from_data, first_pair_read, size_read}
use Rattle.struct_consts.proofs.classes.classes_of.Goals as goal

pub first_pairs-requires : goal.first_pairs-requires
first_pairs-requires c = record { below = λ x y hx hy. omega (arith, colour_at-below c.args.k.now c.requires.configuration x y hx hy, c.in_ok-rank.ensures) }

pub class_sizes-requires : goal.class_sizes-requires
class_sizes-requires c = record { below = λ x y hx hy. omega (arith, colour_at-below c.args.k.now c.requires.configuration x y hx hy, c.in_ok-rank.ensures) }

pub unreachable-requires : goal.unreachable-requires
unreachable-requires c =
    let K = c.args.k.now in
    let k = c.loop-colour.colour in
    let read = first_pair_read K c.in_ok-rank.rank k c.in_ok-pairs.pairs.items c.index.result.now c.in_ok-pairs.ensures c.loop-colour-test.true c.index.ensures in
    let some = first_pair_some K c.requires.configuration k (omega (arith, c.loop-colour-test.true, c.in_ok-rank.ensures)) in
    let none : first_pair_of K k ≡ None = read ∙ c.in_default.is in
    cc

pub class_of-requires-clause-first : goal.class_of-requires-clause-first
class_of-requires-clause-first c =
    first_pair_read c.args.k.now c.in_ok-rank.rank c.loop-colour.colour c.in_ok-pairs.pairs.items c.index.result.now c.in_ok-pairs.ensures c.loop-colour-test.true c.index.ensures ∙ c.in-Some.is

pub class_of-requires-clause-row : goal.class_of-requires-clause-row
class_of-requires-clause-row c =
    (first_pair_holds c.args.k.now c.loop-colour.colour c.in-Some.pair
    (first_pair_read c.args.k.now c.in_ok-rank.rank c.loop-colour.colour c.in_ok-pairs.pairs.items c.index.result.now c.in_ok-pairs.ensures c.loop-colour-test.true c.index.ensures ∙ c.in-Some.is)).row

pub class_of-requires-clause-column : goal.class_of-requires-clause-column
class_of-requires-clause-column c =
    (first_pair_holds c.args.k.now c.loop-colour.colour c.in-Some.pair
    (first_pair_read c.args.k.now c.in_ok-rank.rank c.loop-colour.colour c.in_ok-pairs.pairs.items c.index.result.now c.in_ok-pairs.ensures c.loop-colour-test.true c.index.ensures ∙ c.in-Some.is)).column

pub class_of-requires-clause-size : goal.class_of-requires-clause-size
class_of-requires-clause-size c =
    size_read c.args.k.now c.in_ok-rank.rank c.loop-colour.colour c.in_ok-sizes.sizes.items c.index-size.result.now c.in_ok-sizes.ensures c.loop-colour-test.true c.index-size.ensures

pub loop-colour-preserved : goal.loop-colour-preserved
loop-colour-preserved c =
    HasData-push c.args.k.now c.loop-colour.colour c.loop-colour.classes.items c.push.new.self.items c.in_ok-class_of.field-0 c.in_ok-push.ensures.items c.in_ok-class_of.ensures c.loop-colour.invariant

pub returns : goal.returns
returns c =
    let K = c.args.k.now in
    let end : c.loop-colour.colour ≡ rank_of K = omega (arith, c.in_ok-rank.ensures, c.loop-colour-test.false, c.loop-colour.auto.colour-end) in
    IsConstants-from_data K c.loop-colour.classes.items c.requires.fits c.requires.configuration (subst (λ n. HasData K n c.loop-colour.classes.items) end c.loop-colour.invariant)
