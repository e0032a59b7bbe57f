use Rattle.std.proofs.Common.{◌≡◌, ◌<◌, ◌≤◌, true, false, refl, subst, arith, ⊎_elim}
use Rattle.std.proofs.lemmas.Bool.{cases_lt, both_ways}
use Rattle.mergings.specs.Searches.{IsSoundAt}
use Rattle.mergings.proofs.heads.are_sound.Goals as goal

pub returns-then-not-is_sound : goal.returns-then-not-is_sound
returns-then-not-is_sound c = (
  λ e. absurd (let z : false ≡ true = e in cc),
  λ a. absurd (both_ways _ c.if-not-is_sound.true (c.is_sound.ensures.1 (a.each c.loop-colour.colour (omega (arith, c.loop-colour-test.true, c.rank-colour-end.ensures.value))))),
)

pub returns : goal.returns
returns c = (
  λ _. record { each = λ d l. c.loop-colour.invariant d (omega (arith, l, c.loop-colour-test.false, c.rank-colour-end.ensures.value)) },
  λ _. refl,
)

pub loop-colour-preserved : goal.loop-colour-preserved
loop-colour-preserved c = λ d l. ⊎_elim
    (λ (m : d < c.loop-colour.colour). c.loop-colour.invariant d m)
    (λ (m : c.loop-colour.colour ≤ d).
    let e : c.loop-colour.colour ≡ d = omega (arith, m, l) in
    subst (IsSoundAt c.args.k.now c.args.heads.now) e (c.is_sound.ensures.0 c.if-not-is_sound.false))
    (cases_lt d c.loop-colour.colour)
