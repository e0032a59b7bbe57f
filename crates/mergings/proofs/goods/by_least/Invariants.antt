use Rattle.std.proofs.Common.{map, vec_items}
use Rattle.mergings.specs.Leasts.{AreByLeastBefore}
use Rattle.mergings.proofs.goods.by_least.Given as goal

abbrev pub invariant-loop-colour : goal.invariant-loop-colour
invariant-loop-colour l = AreByLeastBefore l.masks l.colour (map vec_items l.goods.items)
