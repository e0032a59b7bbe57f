use Rattle.std.proofs.Common.{◌≡◌, ap, ◌∙◌, arith}
use Rattle.relation_text.proofs.PairWrites.{bits_to, bits_to-push, row_pair, rows_to, row-next}
use Rattle.relation_text.proofs.writers.bits_in_rows.Goals as goal

pub loop-j-preserved : goal.loop-j-preserved
loop-j-preserved c = bits_to-push c.args.relation.now c.args.set.now (rows_to c.args.relation.now.size c.loop-i.i) (row_pair c.loop-i.i) c.loop-j.j c.has_pair.result c.loop-j.bits.items c.push.new.self.items
    c.loop-j.invariant c.has_pair.ensures c.in_ok-push.ensures.items

pub loop-i-preserved : goal.loop-i-preserved
loop-i-preserved c =
    let end = c.size-j-end.ensures.points in
    let full : c.loop-j.j ≡ c.args.relation.now.size = omega arith in
    c.loop-j.invariant ∙ ap (bits_to c.args.relation.now c.args.set.now (rows_to c.args.relation.now.size c.loop-i.i) (row_pair c.loop-i.i)) full ∙ row-next c.args.relation.now c.args.set.now c.args.relation.now.size c.loop-i.i
