use Rattle.std.proofs.Common.{drop, length, sym, ap, ◌∙◌, arith}
use Rattle.text_lines.specs.Views.{part_of}
use Rattle.relation_text.specs.Bits.{size_len}
use Rattle.relation_text.specs.Orders.{column_pairs}
use Rattle.relation_text.specs.declared.graph_format.GraphFormat.TheVariants.{Graph}
use Rattle.relation_text.proofs.GraphBodies.{IsSize-from_body, body-from_none, body_printable, bits_printable, bits_enough}
use Rattle.relation_text.proofs.graphs.read_graph.Goals as goal

pub graph_colouring-requires-clause-printable : goal.graph_colouring-requires-clause-printable
graph_colouring-requires-clause-printable c =
    bits_printable Graph (part_of c.args.line) c.split_at.result.1.now (sym c.in_default.ensures.fault)
    (c.split_at.ensures.back ∙ ap (λ n. drop n c.args.line.bytes.now) (c.size_len.ensures ∙ ap size_len c.size_of-size.ensures))

pub graph_colouring-requires-clause-enough : goal.graph_colouring-requires-clause-enough
graph_colouring-requires-clause-enough c =
    let enough = bits_enough Graph (part_of c.args.line) c.split_at.result.1.now (sym c.in_default.ensures.fault)
    (c.split_at.ensures.back ∙ ap (λ n. drop n c.args.line.bytes.now) (c.size_len.ensures ∙ ap size_len c.size_of-size.ensures)) in
    let same = ap (λ n. length (column_pairs n)) c.size_of-size.ensures in
    omega arith

pub size_of-size-requires-clause-some : goal.size_of-size-requires-clause-some
size_of-size-requires-clause-some c = (body-from_none Graph (part_of c.args.line) (sym c.in_default.ensures.fault)).some

pub size_of-size-requires-clause-printable : goal.size_of-size-requires-clause-printable
size_of-size-requires-clause-printable c = body_printable Graph (part_of c.args.line) (sym c.in_default.ensures.fault)

pub size_of-size-requires-clause-four : goal.size_of-size-requires-clause-four
size_of-size-requires-clause-four c = (body-from_none Graph (part_of c.args.line) (sym c.in_default.ensures.fault)).four

pub split_at-requires : goal.split_at-requires
split_at-requires c =
    let len = (body-from_none Graph (part_of c.args.line) (sym c.in_default.ensures.fault)).len in
    let size = c.size_len.ensures ∙ ap size_len c.size_of-size.ensures in
    omega arith

pub overflow_cast-size : goal.overflow_cast-size
overflow_cast-size c =
    let most = (IsSize-from_body Graph c.args.line.bytes.now (body-from_none Graph (part_of c.args.line) (sym c.in_default.ensures.fault))).most in
    let size = c.size_of-size.ensures in
    omega arith

pub graph_colouring-requires-clause-has_points : goal.graph_colouring-requires-clause-has_points
graph_colouring-requires-clause-has_points c =
    let least = (IsSize-from_body Graph c.args.line.bytes.now (body-from_none Graph (part_of c.args.line) (sym c.in_default.ensures.fault))).least in
    let size = c.size_of-size.ensures in
    omega arith

pub graph_colouring-requires-clause-limit : goal.graph_colouring-requires-clause-limit
graph_colouring-requires-clause-limit c =
    let most = (IsSize-from_body Graph c.args.line.bytes.now (body-from_none Graph (part_of c.args.line) (sym c.in_default.ensures.fault))).most in
    let size = c.size_of-size.ensures in
    omega arith
