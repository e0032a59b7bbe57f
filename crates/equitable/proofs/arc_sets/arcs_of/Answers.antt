use Rattle.std.proofs.Common.{◌≡◌, ◌*◌, ◌+◌, ◌/◌, ◌%◌, length, sym, ap, subst, ◌∙◌, arith}
use Rattle.std.proofs.lemmas.List.{length-set}
use Rattle.equitable.specs.Arcs.{IsArcs, HasArcsOf}
use Rattle.equitable.proofs.ArcsOfSets.{arcs_of_sets_are_arcs, arcs_of_sets_are_theirs}
use Rattle.equitable.proofs.Ending.{arcs_whole, arc_more}
use Rattle.equitable.proofs.arc_sets.arcs_of.Goals as goal

pub loop-place-preserved : goal.loop-place-preserved
loop-place-preserved c =
    let C = c.args.relation.now in
    let inv = c.loop-place.invariant in
    let n = c.size-size.result in
    let all : n * n ≡ length C.colours = ap (λ m. m * m) c.size-size.ensures.points ∙ sym c.size-size.ensures.within.colouring.has_pairs in
    record {
      size = c.set.ensures.points ∙ inv.size;
      pairs = ap length c.set.ensures.changed
          ∙ length-set c.loop-place.arcs.colours ((c.loop-place.place / n) * c.loop-place.arcs.size + c.loop-place.place % n) c.bit_at.result ∙ inv.pairs;
      bits = arc_more C c.loop-place.arcs c.set.new.self c.args.set.now c.in_ok-chosen.chosen c.loop-place.place n c.bit_at.result
          c.size-size.ensures.points inv.size inv.pairs inv.bits c.in_ok-chosen.ensures
          c.bit_at.ensures c.set.ensures.changed (omega (arith, c.loop-place-test.true, all));
    }

pub returns-clause-all : goal.returns-clause-all
returns-clause-all c =
    let C = c.args.relation.now in
    let inv = c.loop-place.invariant in
    let n = c.size-size.result in
    let all : n * n ≡ length C.colours = ap (λ m. m * m) c.size-size.ensures.points ∙ sym c.size-size.ensures.within.colouring.has_pairs in
    arcs_whole C c.loop-place.arcs c.args.set.now c.loop-place.place inv.size inv.pairs (omega (arith, c.loop-place-test.false, all)) inv.bits

pub returns-clause-bits : goal.returns-clause-bits
returns-clause-bits c =
    subst IsArcs (sym (returns-clause-all c)) (arcs_of_sets_are_arcs c.args.relation.now c.args.set.now c.size-size.ensures.within)

pub returns-clause-theirs : goal.returns-clause-theirs
returns-clause-theirs c =
    subst (HasArcsOf c.args.relation.now c.args.set.now) (sym (returns-clause-all c))
    (arcs_of_sets_are_theirs c.args.relation.now c.args.set.now c.size-size.ensures.within.colouring)
