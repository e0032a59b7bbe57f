use Rattle.std.proofs.Common.{◌≡◌, ap, ◌∙◌, arith}
use Rattle.relation_text.specs.Orders.{column_pairs}
use Rattle.relation_text.proofs.PairWrites.{bits_to, bits_to-push, column_pair, column-next}
use Rattle.relation_text.proofs.writers.bits_in_columns.Goals as goal

pub loop-i-preserved : goal.loop-i-preserved
loop-i-preserved c = bits_to-push c.args.relation.now c.args.set.now (column_pairs c.loop-j.j) (column_pair c.loop-j.j) c.loop-i.i c.has_pair.result c.loop-i.bits.items c.push.new.self.items
    c.loop-i.invariant c.has_pair.ensures c.in_ok-push.ensures.items

pub loop-j-preserved : goal.loop-j-preserved
loop-j-preserved c =
    let full : c.loop-i.i ≡ c.loop-j.j = omega arith in
    c.loop-i.invariant ∙ ap (bits_to c.args.relation.now c.args.set.now (column_pairs c.loop-j.j) (column_pair c.loop-j.j)) full ∙ column-next c.args.relation.now c.args.set.now c.loop-j.j
