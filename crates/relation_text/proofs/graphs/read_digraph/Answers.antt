use Rattle.std.proofs.Common.{◌≡◌, ◌*◌, drop, length, sym, ap, ◌∙◌, arith}
use Rattle.text_lines.specs.Views.{part_of}
use Rattle.relation_text.specs.Bits.{size_len}
use Rattle.relation_text.specs.Orders.{row_pairs}
use Rattle.relation_text.specs.declared.graph_format.GraphFormat.TheVariants.{Digraph}
use Rattle.relation_text.proofs.GraphBodies.{IsSize-from_body, body-from_none, body_printable, bits_printable, bits_enough}
use Rattle.relation_text.proofs.OrderLemmas.{length-row_pairs}
use Rattle.relation_text.proofs.graphs.read_digraph.Goals as goal

pub digraph_colouring-requires-clause-enough : goal.digraph_colouring-requires-clause-enough
digraph_colouring-requires-clause-enough c =
    let enough = bits_enough Digraph (part_of c.args.body) c.split_at.result.1.now (sym c.in_default.ensures.fault)
    (c.split_at.ensures.back ∙ ap (λ n. drop n c.args.body.bytes.now) (c.size_len.ensures ∙ ap size_len c.size_of-size.ensures)) in
    let count : length (row_pairs c.size_of-size.result) ≡ c.size_of-size.result * c.size_of-size.result = length-row_pairs c.size_of-size.result in
    let same = ap (λ n. length (row_pairs n)) c.size_of-size.ensures in
    omega arith

pub digraph_colouring-requires-clause-printable : goal.digraph_colouring-requires-clause-printable
digraph_colouring-requires-clause-printable c =
    bits_printable Digraph (part_of c.args.body) c.split_at.result.1.now (sym c.in_default.ensures.fault)
    (c.split_at.ensures.back ∙ ap (λ n. drop n c.args.body.bytes.now) (c.size_len.ensures ∙ ap size_len c.size_of-size.ensures))

pub size_of-size-requires-clause-some : goal.size_of-size-requires-clause-some
size_of-size-requires-clause-some c = (body-from_none Digraph (part_of c.args.body) (sym c.in_default.ensures.fault)).some

pub size_of-size-requires-clause-printable : goal.size_of-size-requires-clause-printable
size_of-size-requires-clause-printable c = body_printable Digraph (part_of c.args.body) (sym c.in_default.ensures.fault)

pub size_of-size-requires-clause-four : goal.size_of-size-requires-clause-four
size_of-size-requires-clause-four c = (body-from_none Digraph (part_of c.args.body) (sym c.in_default.ensures.fault)).four

pub split_at-requires : goal.split_at-requires
split_at-requires c =
    let len = (body-from_none Digraph (part_of c.args.body) (sym c.in_default.ensures.fault)).len in
    let size = c.size_len.ensures ∙ ap size_len c.size_of-size.ensures in
    omega arith

pub overflow_cast-size : goal.overflow_cast-size
overflow_cast-size c =
    let most = (IsSize-from_body Digraph c.args.body.bytes.now (body-from_none Digraph (part_of c.args.body) (sym c.in_default.ensures.fault))).most in
    let size = c.size_of-size.ensures in
    omega arith

pub digraph_colouring-requires-clause-has_points : goal.digraph_colouring-requires-clause-has_points
digraph_colouring-requires-clause-has_points c =
    let least = (IsSize-from_body Digraph c.args.body.bytes.now (body-from_none Digraph (part_of c.args.body) (sym c.in_default.ensures.fault))).least in
    let size = c.size_of-size.ensures in
    omega arith

pub digraph_colouring-requires-clause-limit : goal.digraph_colouring-requires-clause-limit
digraph_colouring-requires-clause-limit c =
    let most = (IsSize-from_body Digraph c.args.body.bytes.now (body-from_none Digraph (part_of c.args.body) (sym c.in_default.ensures.fault))).most in
    let size = c.size_of-size.ensures in
    omega arith
