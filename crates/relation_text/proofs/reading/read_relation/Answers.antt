use Rattle.std.proofs.Common.{◌≡◌, None, sym, subst}
use Rattle.std.specs.Prelude.{IfErr, OnOk}
use Rattle.text_lines.specs.Views.{part_of}
use Rattle.relation_text.specs.Faults.{IsFaultOf}
use Rattle.relation_text.proofs.RawColours.{raw-read}
use Rattle.relation_text.proofs.Readings.{graph_read, digraph_read, matrix_read, fault-graph, fault-digraph, fault-matrix}
use Rattle.relation_text.proofs.reading.read_relation.Goals as goal

pub returns-then-starts_with-clause-read : goal.returns-then-starts_with-clause-read
returns-then-starts_with-clause-read c =
    matrix_read c.args.bytes.now c.args.line (part_of c.in-Some.chosen) c.chosen_line.new.left c.read_matrix.result c.in-Some.ensures.chosen c.if-starts_with.ensures.value
    c.read_matrix.ensures.good c.read_matrix.ensures.colouring c.read_matrix.ensures.points c.read_matrix.ensures.cells

pub returns-then-starts_with-2-clause-read : goal.returns-then-starts_with-2-clause-read
returns-then-starts_with-2-clause-read c =
    digraph_read c.args.bytes.now c.args.line (part_of c.in-Some.chosen) (part_of c.part_after.result) c.chosen_line.new.left c.read_digraph.result c.in-Some.ensures.chosen c.if-starts_with-2.ensures.value c.part_after.ensures
    c.read_digraph.ensures.good c.read_digraph.ensures.colouring c.read_digraph.ensures.points c.read_digraph.ensures.arcs

pub returns-else-starts_with-2-clause-read : goal.returns-else-starts_with-2-clause-read
returns-else-starts_with-2-clause-read c =
    graph_read c.args.bytes.now c.args.line (part_of c.in-Some.chosen) c.chosen_line.new.left c.read_graph.result c.in-Some.ensures.chosen
    c.read_graph.ensures.good c.read_graph.ensures.colouring c.read_graph.ensures.points c.read_graph.ensures.edges

pub returns-then-starts_with-clause-raw : goal.returns-then-starts_with-clause-raw
returns-then-starts_with-clause-raw c = raw-read c.args.bytes.now c.args.line c.read_matrix.result (returns-then-starts_with-clause-read c)

pub returns-then-starts_with-2-clause-raw : goal.returns-then-starts_with-2-clause-raw
returns-then-starts_with-2-clause-raw c = raw-read c.args.bytes.now c.args.line c.read_digraph.result (returns-then-starts_with-2-clause-read c)

pub returns-else-starts_with-2-clause-raw : goal.returns-else-starts_with-2-clause-raw
returns-else-starts_with-2-clause-raw c = raw-read c.args.bytes.now c.args.line c.read_graph.result (returns-else-starts_with-2-clause-read c)

pub returns-then-starts_with-clause-good : goal.returns-then-starts_with-clause-good
returns-then-starts_with-clause-good c =
    let fault = fault-matrix c.args.bytes.now c.args.line (part_of c.in-Some.chosen) c.chosen_line.new.left c.in-Some.ensures.chosen c.if-starts_with.ensures.value in
    subst (λ o. OnOk c.read_matrix.result (o ≡ None)) (sym fault) c.read_matrix.ensures.good

pub returns-then-starts_with-clause-fault : goal.returns-then-starts_with-clause-fault
returns-then-starts_with-clause-fault c =
    let fault = fault-matrix c.args.bytes.now c.args.line (part_of c.in-Some.chosen) c.chosen_line.new.left c.in-Some.ensures.chosen c.if-starts_with.ensures.value in
    subst (λ o. IfErr c.read_matrix.result (λ what. IsFaultOf what o)) (sym fault) c.read_matrix.ensures.fault

pub returns-then-starts_with-2-clause-good : goal.returns-then-starts_with-2-clause-good
returns-then-starts_with-2-clause-good c =
    let fault = fault-digraph c.args.bytes.now c.args.line (part_of c.in-Some.chosen) (part_of c.part_after.result) c.chosen_line.new.left c.in-Some.ensures.chosen c.if-starts_with.ensures.value c.if-starts_with-2.ensures.value c.part_after.ensures in
    subst (λ o. OnOk c.read_digraph.result (o ≡ None)) (sym fault) c.read_digraph.ensures.good

pub returns-then-starts_with-2-clause-fault : goal.returns-then-starts_with-2-clause-fault
returns-then-starts_with-2-clause-fault c =
    let fault = fault-digraph c.args.bytes.now c.args.line (part_of c.in-Some.chosen) (part_of c.part_after.result) c.chosen_line.new.left c.in-Some.ensures.chosen c.if-starts_with.ensures.value c.if-starts_with-2.ensures.value c.part_after.ensures in
    subst (λ o. IfErr c.read_digraph.result (λ what. IsFaultOf what o)) (sym fault) c.read_digraph.ensures.fault

pub returns-else-starts_with-2-clause-good : goal.returns-else-starts_with-2-clause-good
returns-else-starts_with-2-clause-good c =
    let fault = fault-graph c.args.bytes.now c.args.line (part_of c.in-Some.chosen) c.chosen_line.new.left c.in-Some.ensures.chosen c.if-starts_with.ensures.value c.if-starts_with-2.ensures.value in
    subst (λ o. OnOk c.read_graph.result (o ≡ None)) (sym fault) c.read_graph.ensures.good

pub returns-else-starts_with-2-clause-fault : goal.returns-else-starts_with-2-clause-fault
returns-else-starts_with-2-clause-fault c =
    let fault = fault-graph c.args.bytes.now c.args.line (part_of c.in-Some.chosen) c.chosen_line.new.left c.in-Some.ensures.chosen c.if-starts_with.ensures.value c.if-starts_with-2.ensures.value in
    subst (λ o. IfErr c.read_graph.result (λ what. IsFaultOf what o)) (sym fault) c.read_graph.ensures.fault
