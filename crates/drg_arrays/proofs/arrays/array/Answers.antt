use Rattle.std.proofs.Common.{length, sym, subst, ap, ◌∙◌}
use Rattle.std.proofs.lemmas.Bool.{eqb-true, eq-eqb, false≢true}
use Rattle.std.proofs.lemmas.List.{nil_from_length}
use Rattle.drg_arrays.specs.Graph.{graph_of}
use Rattle.drg_arrays.specs.Answer.{IsGraphAnswer}
use Rattle.drg_arrays.proofs.OneAnswer.{IsGraphAnswer-same}
use Rattle.drg_arrays.proofs.arrays.array.Goals as goal
use Rattle.drg_arrays.proofs.arrays.array.Goals.{then-is_empty-via-then-is_empty, then-is_empty-via-else-is_empty+in_ok-is_edge_set+then-not-branch}

pub returns-then-is_empty-clause-bad : goal.returns-then-is_empty-clause-bad
returns-then-is_empty-clause-bad c e g =
    let S = c.args.set.now in
    elim c.then-is_empty.branch [
      | then-is_empty-via-then-is_empty w ↦ g.chosen (nil_from_length S (eqb-true (length S) 0 (sym c.is_empty.ensures ∙ w.if-is_empty.true)))
      | then-is_empty-via-else-is_empty+in_ok-is_edge_set+then-not-branch w ↦ false≢true (sym w.if-not-branch.true ∙ w.in_ok-is_edge_set.ensures.1 g.edges)
    ]

pub returns-clause-good : goal.returns-clause-good
returns-clause-good c =
    let S = c.args.set.now in record {
      chosen = λ e. false≢true (sym c.if-is_empty.false ∙ c.is_empty.ensures ∙ eq-eqb (length S) 0 (ap length e));
      edges = c.in_ok-is_edge_set.ensures.0 c.if-not-branch.false;
    }

pub returns-clause-only : goal.returns-clause-only
returns-clause-only c other h =
    let answer = c.in_ok-judged.field-0 in
    IsGraphAnswer-same (graph_of c.args.relation.now c.args.set.now) other answer h (subst (λ G. IsGraphAnswer G answer) c.in_ok-graph.ensures c.in_ok-judged.ensures)
