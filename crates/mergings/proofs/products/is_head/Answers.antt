use Rattle.std.proofs.Common.{◌≡◌, true, false, sym, ◌∙◌}
use Rattle.mergings.proofs.products.is_head.Goals as goal

pub returns-then-own-x : goal.returns-then-own-x
returns-then-own-x c = (λ e. absurd (let z : false ≡ true = e in cc), λ h. absurd (c.if-own-x.true h.own))

pub returns : goal.returns
returns c = (λ e. record { has = sym c.has_colour.ensures ∙ e; own = c.if-own-x.false }, λ h. c.has_colour.ensures ∙ h.has)
