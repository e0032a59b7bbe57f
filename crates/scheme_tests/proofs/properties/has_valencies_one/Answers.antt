use Rattle.std.proofs.Common.{◌≡◌, ◌<◌, ◌≤◌, ⊎_elim, refl, sym, ap, ◌∙◌, arith}
use Rattle.std.proofs.lemmas.Bool.{cases_lt, true≢false}
use Rattle.struct_consts.specs.ClassData.{valency_of}
use Rattle.scheme_tests.proofs.TestLemmas.{thin_from_valencies, valencies_in_thin}
use Rattle.scheme_tests.proofs.properties.has_valencies_one.Goals as goal

pub returns-then-valency-ne1 : goal.returns-then-valency-ne1
returns-then-valency-ne1 c = λ _. (
  λ t. absurd (true≢false (sym t)),
  λ t. absurd (c.if-valency-ne1.true (c.valency.ensures.number ∙ valencies_in_thin c.args.k.now c.rank-class-end.ensures.configuration t c.loop-class.class (omega (arith, c.loop-class-test.true, c.rank-class-end.ensures.value)))),
)

pub loop-class-preserved : goal.loop-class-preserved
loop-class-preserved c = λ j l. ⊎_elim
    (λ (m : j < c.loop-class.class). c.loop-class.invariant j m)
    (λ (m : c.loop-class.class ≤ j).
    let same : j ≡ c.loop-class.class = omega (arith, l, m) in
    ap (valency_of c.args.k.now) same ∙ sym c.valency.ensures.number ∙ c.if-valency-ne1.false)
    (cases_lt j c.loop-class.class)

pub returns : goal.returns
returns c = λ h. (
  λ t. thin_from_valencies c.args.k.now c.rank-class-end.ensures.configuration h
      (λ k l. c.loop-class.invariant k (omega (arith, l, c.loop-class-test.false, c.rank-class-end.ensures.value))),
  λ _. refl,
)
