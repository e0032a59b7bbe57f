use Rattle.std.proofs.Common.{ap, sym, ◌∙◌, arith, if◌then◌else◌}
use Rattle.std.proofs.lemmas.Bool.{eq-eqb}
use Rattle.equitable.specs.Equitable.{arcs_into}
use Rattle.equitable.proofs.CellPoints.{members_inside, members_few, arcs_to_members}
use Rattle.equitable.proofs.partition.key_at.Goals as goal

pub arcs_to-requires-clause-columns : goal.arcs_to-requires-clause-columns
arcs_to-requires-clause-columns c =
    members_inside c.args.cells.now c.args.members.now c.args.step.into c.args.arcs.now.size c.requires.members c.requires.points

pub arcs_to-requires-clause-few : goal.arcs_to-requires-clause-few
arcs_to-requires-clause-few c =
    omega (arith, members_few c.args.cells.now c.args.members.now c.args.step.into c.requires.members, c.requires.few)

pub returns-then-cells-x : goal.returns-then-cells-x
returns-then-cells-x c =
    arcs_to_members c.args.arcs.now c.args.cells.now c.args.members.now c.args.x c.args.step.into c.arcs_to.result c.requires.points
    c.requires.members c.arcs_to.ensures
    ∙ sym (ap (λ b. if b then arcs_into c.args.arcs.now c.args.cells.now c.args.x c.args.step.into else 0) (eq-eqb _ _ c.if-cells-x.true))
