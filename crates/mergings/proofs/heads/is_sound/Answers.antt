use Rattle.std.proofs.Common.{◌≡◌, true, false, arith}
use Rattle.std.proofs.lemmas.Bool.{both_ways}
use Rattle.mergings.proofs.heads.is_sound.Goals as goal

pub agrees-requires-clause-right : goal.agrees-requires-clause-right
agrees-requires-clause-right c = omega (arith, c.requires.low c.args.colour c.requires.colour, c.requires.colour)

pub returns-then-not-agrees : goal.returns-then-not-agrees
returns-then-not-agrees c = (
  λ e. absurd (let z : false ≡ true = e in cc),
  λ s. absurd (both_ways _ c.if-not-agrees.true (c.agrees.ensures.1 s.diagonal)),
)

pub returns : goal.returns
returns c = (
  λ e. record { turned = c.is_turned.ensures.0 e; diagonal = c.agrees.ensures.0 c.if-not-agrees.false },
  λ s. c.is_turned.ensures.1 s.turned,
)
