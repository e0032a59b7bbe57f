use Rattle.std.proofs.Common.{◌≡◌, true, false, refl}
use Rattle.std.proofs.lemmas.Bool.{both_ways}
use Rattle.mergings.proofs.heads.agrees.Goals as goal

pub returns-then-is_diagonal : goal.returns-then-is_diagonal
returns-then-is_diagonal c = (
  λ e. (λ _. c.is_diagonal-then-is_diagonal.ensures.0 e, λ _. c.is_diagonal.ensures.0 c.if-is_diagonal.true),
  λ f. c.is_diagonal-then-is_diagonal.ensures.1 (f.0 (c.is_diagonal.ensures.0 c.if-is_diagonal.true)),
)

pub returns-then-is_diagonal-2 : goal.returns-then-is_diagonal-2
returns-then-is_diagonal-2 c = (
  λ e. absurd (let z : false ≡ true = e in cc),
  λ f. absurd (both_ways _ c.if-is_diagonal.false (c.is_diagonal.ensures.1 (f.1 (c.is_diagonal-2.ensures.0 c.if-is_diagonal-2.true)))),
)

pub returns : goal.returns
returns c = (
  λ _. (
    λ d. absurd (both_ways _ c.if-is_diagonal.false (c.is_diagonal.ensures.1 d)),
    λ d. absurd (both_ways _ c.if-is_diagonal-2.false (c.is_diagonal-2.ensures.1 d)),
  ),
  λ _. refl,
)
