use Rattle.std.proofs.Common.{◌≡◌, ℕ, ◌-◌, ◌<◌, ◌≤◌, true, false, inl, inr, refl, sym, subst, arith, ⊎_elim}
use Rattle.std.proofs.lemmas.Bool.{cases_lt, both_ways}
use Rattle.mergings.specs.Searches.{IsHead, IsConstantFrom}
use Rattle.mergings.proofs.products.are_constant.Goals as goal

pub returns-then-not-is_constant_if_head : goal.returns-then-not-is_constant_if_head
returns-then-not-is_constant_if_head c = (
  λ e. absurd (let z : false ≡ true = e in cc),
  λ a. absurd (both_ways _ c.if-not-is_constant_if_head.true (c.is_constant_if_head.ensures.1 (a.each (c.rank-rank.result - 1 - c.loop-step.step) (omega (arith, c.loop-step-test.true, c.rank-rank.ensures.value))))),
)

pub loop-step-preserved : goal.loop-step-preserved
loop-step-preserved c = λ x m l hx.
    let last : ℕ = c.rank-rank.result - 1 - c.loop-step.step in
    ⊎_elim
    (λ (k : c.rank-rank.result - c.loop-step.step ≤ x). c.loop-step.invariant x k l hx)
    (λ (k : x < c.rank-rank.result - c.loop-step.step).
    let e : x ≡ last = omega (arith, k, m, c.loop-step-test.true) in
    subst (IsConstantFrom c.args.k.now c.args.heads.now c.args.covered) (sym e) (c.is_constant_if_head.ensures.0 c.if-not-is_constant_if_head.false (subst (IsHead c.args.heads.now c.args.covered) e hx)))
    (⊎_elim (λ q. inr q) (λ q. inl q) (cases_lt x (c.rank-rank.result - c.loop-step.step)))

pub returns : goal.returns
returns c = (
  λ _. record { each = λ x l hx. c.loop-step.invariant x (omega (arith, c.loop-step-test.false)) (omega (arith, l, c.rank-rank.ensures.value)) hx },
  λ _. refl,
)
