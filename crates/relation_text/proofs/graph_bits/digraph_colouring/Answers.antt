use Rattle.std.proofs.Common.{◌≡◌, ℕ, arith, ◌∙◌, ap, subst}
use Rattle.relation_text.specs.Relation.{pair_colour}
use Rattle.relation_text.proofs.BitLoops.{ArcsTo, ArcsTo-more, ArcsTo-next}
use Rattle.pair_colours.proofs.SameColours.{IsColouring-set, IsColouring-filled}
use Rattle.relation_text.proofs.graph_bits.digraph_colouring.Goals as goal

pub loop-j-preserved : goal.loop-j-preserved
loop-j-preserved c =
    let so_far = c.loop-j.invariant in
    let same = so_far.points in
    let others = c.set.ensures.others in
    ArcsTo-more c.args.bytes.now c.loop-j.colouring c.set.new.self c.args.size c.loop-i.i c.loop-j.j so_far (omega arith) (omega arith)
    (IsColouring-set c.loop-j.colouring c.set.new.self _ _ so_far.colouring c.set.ensures.points c.set.ensures.changed) (c.set.ensures.points ∙ same)
    (c.set.ensures.pair ∙ c.pair_colour.ensures ∙ ap (pair_colour c.loop-i.i c.loop-j.j) c.bit_in-bit.ensures)
    (λ u v h l e. others u v (omega (arith, h)) (omega (arith, l)) e)

pub loop-i-preserved : goal.loop-i-preserved
loop-i-preserved c =
    let full : c.loop-j.j ≡ c.args.size = omega arith in
    ArcsTo-next c.args.bytes.now c.loop-j.colouring c.args.size c.loop-i.i (subst (λ (n : ℕ). ArcsTo c.args.bytes.now c.loop-j.colouring c.args.size c.loop-i.i n) full c.loop-j.invariant)

pub loop-i-init : goal.loop-i-init
loop-i-init c = record {
  colouring = IsColouring-filled c.in_ok-colouring.colouring c.args.size 0 c.requires.has_points c.in_ok-colouring.ensures.points c.in_ok-colouring.ensures.filled;
  points = c.in_ok-colouring.ensures.points;
  rows = λ u v h l. absurd (omega arith);
  row = λ v h l. absurd (omega arith);
}
