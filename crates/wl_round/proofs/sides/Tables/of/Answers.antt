use Rattle.std.proofs.Common.{◌<◌, get_or, List, ℕ, sym, subst, arith}
use Rattle.wl_round.specs.RowCodes.{IsSquare}
use Rattle.wl_round.proofs.TurnedLemmas.{IsSquare-turned, square_small}
use Rattle.wl_round.proofs.RowCodeLemmas.{places_low}
use Rattle.wl_round.proofs.sides.Tables.of.Goals as goal

pub transposed-requires-clause-small : goal.transposed-requires-clause-small
transposed-requires-clause-small c = omega (arith, square_small c.args.size c.requires.limit)

pub row_codes-requires-2 : goal.row_codes-requires-2
row_codes-requires-2 c =
    subst (λ (l : List ℕ). IsSquare c.args.size l) (sym c.deref.ensures.value)
    (IsSquare-turned c.args.size c.args.class.now c.in_ok-turned.turned.items c.requires c.in_ok-turned.ensures)

pub scaled-requires-clause-low : goal.scaled-requires-clause-low
scaled-requires-clause-low c = λ p l.
    subst (λ (xs : List ℕ). get_or xs p 0 < c.args.size) (sym c.deref-2.ensures.value)
    (places_low c.args.size c.args.class.now c.in_ok-rows.rows.leads.items c.in_ok-rows.rows.places.items c.in_ok-rows.ensures p c.requires.points l)
