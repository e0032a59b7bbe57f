use Rattle.std.proofs.Common.{subst, sym, ◌∙◌}
use Rattle.equitable.specs.Arcs.{IsArcs, HasArcsOf}
use Rattle.equitable.specs.Equitable.{IsCells}
use Rattle.equitable.proofs.LawProofs.{accepted_are_cells, accepted_has_text, fibres_lie_in_cells}
use Rattle.equitable.proofs.refining.cells.Goals as goal

pub returns-clause-cells : goal.returns-clause-cells
returns-clause-cells c =
    subst (λ G. IsCells G c.in_ok-refined.field-0.cells) (c.in_ok-refined.ensures.arcs ∙ c.in_ok-arcs.ensures.all)
    (accepted_are_cells c.in_ok-refined.field-0 c.in_ok-refined.ensures.accepted)

pub returns-clause-fibres : goal.returns-clause-fibres
returns-clause-fibres c = λ K k.
    let claim = c.in_ok-refined.field-0 in
    let theirs = subst (HasArcsOf c.args.relation.now c.args.set.now) (sym c.in_ok-refined.ensures.arcs) c.in_ok-arcs.ensures.theirs in
    fibres_lie_in_cells c.args.relation.now K claim.arcs c.args.set.now claim.cells k theirs (accepted_are_cells claim c.in_ok-refined.ensures.accepted)

pub returns-clause-text : goal.returns-clause-text
returns-clause-text c =
    accepted_has_text c.in_ok-refined.field-0 (subst IsArcs (sym c.in_ok-refined.ensures.arcs) c.in_ok-arcs.ensures.bits) c.in_ok-refined.ensures.accepted
