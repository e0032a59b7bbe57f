use Rattle.std.proofs.Common.{◌≡◌, ◌++◌, length, ap, ◌∙◌, arith}
use Rattle.relation_text.specs.Bits.{bytes_for}
use Rattle.relation_text.proofs.BitWrites.{bytes_to-more, bytes_to-all}
use Rattle.relation_text.proofs.encoding.push_bits.Goals as goal

pub loop-q-preserved : goal.loop-q-preserved
loop-q-preserved c = bytes_to-more c.args.bits.now c.loop-q.q c.six_bits.result c.args.text.now.items c.loop-q.text.items c.push.new.self.items c.loop-q.invariant c.six_bits.ensures.six c.in_ok-push.ensures.items

pub returns : goal.returns
returns c =
    let last : c.loop-q.q ≡ bytes_for (length c.args.bits.now) = omega arith in
    c.loop-q.invariant ∙ ap (λ xs. c.args.text.now.items ++ xs) (bytes_to-all c.args.bits.now c.loop-q.q last)
