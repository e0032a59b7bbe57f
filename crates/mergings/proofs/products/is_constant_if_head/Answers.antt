use Rattle.std.proofs.Common.{refl}
use Rattle.std.proofs.lemmas.Bool.{both_ways}
use Rattle.mergings.proofs.products.is_constant_if_head.Goals as goal

pub returns-then-not-is_head : goal.returns-then-not-is_head
returns-then-not-is_head c = (λ _ h. absurd (both_ways _ c.if-not-is_head.true (c.is_head.ensures.1 h)), λ _. refl)

pub returns : goal.returns
returns c = (λ e _. c.is_constant.ensures.0 e, λ f. c.is_constant.ensures.1 (f (c.is_head.ensures.0 c.if-not-is_head.false)))
