use Rattle.std.proofs.Common.{ap, subst, arith}
use Rattle.pair_colours.proofs.Few.{few_met}
use Rattle.struct_consts.specs.ClassData.{IsConfiguration}
use Rattle.pair_colours.specs.Naming.{rank_of}
use Rattle.struct_consts.proofs.Configurations.{class_is_colour, colour_at-below}
use Rattle.struct_consts.proofs.intersection_numbers.Constants.rank.Goals as goal

pub overflow_cast-result : goal.overflow_cast-result
overflow_cast-result c = omega (arith, c.self.invariant.rank, few_met c.self.inside.colouring c.self.invariant.fits)

pub returns-clause-colours : goal.returns-clause-colours
returns-clause-colours c =
    let g = subst IsConfiguration c.self.view_is c.self.invariant.configuration in
    record { below = λ x y hx hy. let b = colour_at-below c.args.self.now g x y hx hy in omega (arith, b, c.self.invariant.rank, ap rank_of c.self.view_is) }

pub returns-clause-classes : goal.returns-clause-classes
returns-clause-classes c = λ k l.
    let g = subst IsConfiguration c.self.view_is c.self.invariant.configuration in
    class_is_colour c.args.self.now g k (omega (arith, l, c.self.invariant.rank, ap rank_of c.self.view_is))
