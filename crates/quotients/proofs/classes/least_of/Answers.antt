use Rattle.std.proofs.Common.{ℕ, ◌≤◌, Bool, sym, ◌∙◌, arith}
use Rattle.pair_colours.specs.Colouring.{colour_at}
use Rattle.pair_colours.specs.ColourSets.{is_in}
use Rattle.quotients.proofs.Points.{first_is}
use Rattle.quotients.proofs.classes.least_of.Goals as goal

pub returns-then-has_pair : goal.returns-then-has_pair
returns-then-has_pair c =
    let K = c.args.k.now in
    let test : ℕ → Bool = λ z. is_in c.args.members.now (colour_at K c.args.x z) in
    sym (first_is test K.size c.loop-y.y (omega arith) c.loop-y.invariant (λ _. sym c.has_pair.ensures ∙ c.if-has_pair.true))

pub returns : goal.returns
returns c =
    let K = c.args.k.now in
    let test : ℕ → Bool = λ z. is_in c.args.members.now (colour_at K c.args.x z) in
    let end : K.size ≤ c.loop-y.y = omega arith in
    c.size.ensures.points ∙ sym (first_is test K.size K.size (omega arith) (λ z l. c.loop-y.invariant z (omega (arith, l, end))) (λ l. absurd (omega (arith, l))))
