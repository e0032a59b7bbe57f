use Rattle.std.proofs.Common.{arith}
use Rattle.struct_consts.proofs.LookupLemmas.{count_found, count_missing}
use Rattle.struct_consts.proofs.lookup.count_in.Goals as goal
use Rattle.struct_consts.proofs.lookup.count_in.Goals.{else-e-left-via-then-e-left+else-e-right, else-e-left-via-else-e-left}

pub returns-then-e-right : goal.returns-then-e-right
returns-then-e-right c =
    count_found c.args.entries.now c.args.left c.args.right c.place_in-place.result (record { left = 0; right = 0; count = 0 }) c.requires c.place_in-place.ensures
    c.if-place-entries.true c.if-e-left.true c.if-e-right.true

pub returns-else-e-left : goal.returns-else-e-left
returns-else-e-left c =
    count_missing c.args.entries.now c.args.left c.args.right c.place_in-place.result (record { left = 0; right = 0; count = 0 }) c.requires c.place_in-place.ensures
    (λ l o. elim c.else-e-left.branch [
      | else-e-left-via-then-e-left+else-e-right w ↦ w.if-e-right.false o.1
      | else-e-left-via-else-e-left w ↦ w.if-e-left.false o.0
    ])

pub returns-else-place-entries : goal.returns-else-place-entries
returns-else-place-entries c =
    count_missing c.args.entries.now c.args.left c.args.right c.place_in-place.result (record { left = 0; right = 0; count = 0 }) c.requires c.place_in-place.ensures
    (λ l o. let past = c.if-place-entries.false in omega (arith, l, past))
