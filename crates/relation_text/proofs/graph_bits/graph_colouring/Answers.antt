use Rattle.std.proofs.Common.{◌≡◌, ℕ, refl, arith, ◌∙◌, ap, subst}
use Rattle.relation_text.specs.Relation.{pair_colour}
use Rattle.relation_text.proofs.BitLoops.{EdgesTo, EdgesTo-more, EdgesTo-next, place_within, place_small}
use Rattle.pair_colours.proofs.SameColours.{IsColouring-set, IsColouring-filled, colour_at-filled}
use Rattle.relation_text.proofs.graph_bits.graph_colouring.Goals as goal

pub bit_in-requires-clause-inside : goal.bit_in-requires-clause-inside
bit_in-requires-clause-inside c = place_within c.args.size _ c.loop-i.k c.loop-i.i c.loop-j.j c.loop-i.invariant.place c.loop-i-test.true c.loop-j-test.true c.requires.enough

pub overflow_add-k : goal.overflow_add-k
overflow_add-k c =
    let small = place_small c.args.size c.loop-i.k c.loop-i.i c.loop-j.j c.requires.limit c.loop-i.invariant.place c.loop-i-test.true c.loop-j-test.true in
    omega arith

pub loop-i-preserved : goal.loop-i-preserved
loop-i-preserved c =
    let so_far = c.loop-i.invariant in
    let same = so_far.points in
    let first_same = c.set.ensures.points in
    let others_first = c.set.ensures.others in
    let others = c.set-in-loop-i.ensures.others in
    EdgesTo-more c.args.bytes.now c.loop-i.colouring c.set.new.self c.set-in-loop-i.new.self c.args.size c.loop-i.k c.loop-i.i c.loop-j.j c.pair_colour-colour.result so_far
    c.loop-i-test.true c.loop-j-test.true
    (IsColouring-set c.set.new.self c.set-in-loop-i.new.self _ _ (IsColouring-set c.loop-i.colouring c.set.new.self _ _ so_far.colouring first_same c.set.ensures.changed) c.set-in-loop-i.ensures.points c.set-in-loop-i.ensures.changed)
    (first_same ∙ same) (c.set-in-loop-i.ensures.points ∙ first_same ∙ same)
    (c.pair_colour-colour.ensures ∙ ap (pair_colour c.loop-i.i c.loop-j.j) c.bit_in.ensures) c.set.ensures.pair c.set-in-loop-i.ensures.pair
    (λ u v h l e. others_first u v (omega (arith, h)) (omega (arith, l)) e)
    (λ u v h l e. others u v (omega (arith, h)) (omega (arith, l)) e)

pub loop-j-preserved : goal.loop-j-preserved
loop-j-preserved c =
    let full : c.loop-i.i ≡ c.loop-j.j = omega arith in
    EdgesTo-next c.args.bytes.now c.loop-i.colouring c.args.size c.loop-i.k c.loop-j.j (subst (λ (n : ℕ). EdgesTo c.args.bytes.now c.loop-i.colouring c.args.size c.loop-i.k n c.loop-j.j) full c.loop-i.invariant) c.loop-j-test.true

pub loop-j-init : goal.loop-j-init
loop-j-init c = record {
  colouring = IsColouring-filled c.in_ok-colouring.colouring c.args.size 0 c.requires.has_points c.in_ok-colouring.ensures.points c.in_ok-colouring.ensures.filled;
  points = c.in_ok-colouring.ensures.points;
  place = refl;
  diagonal = λ u h. colour_at-filled c.in_ok-colouring.colouring c.args.size 0 c.in_ok-colouring.ensures.points c.in_ok-colouring.ensures.filled u u h h;
  edge = λ u v a b h. absurd (omega arith);
  turned = λ u v a b h. absurd (omega arith);
  column_edge = λ u a b h. absurd (omega arith);
  column_turned = λ u a b h. absurd (omega arith);
}
