use Rattle.std.proofs.Common.{◌≡◌, ◌*◌, ◌-◌, ◌/◌, ◌≤◌, length, sym, ap, ◌∙◌, arith}
use Rattle.std.proofs.lemmas.Nat.{mul-le}
use Rattle.pair_colours.specs.declared.coloured_pairs.TheConstants.{MOST_POINTS}
use Rattle.relation_text.specs.Orders.{column_pairs, pairs_of}
use Rattle.relation_text.proofs.OrderLemmas.{length-column_pairs, length-row_pairs}
use Rattle.relation_text.proofs.graph_faults.bit_count.Goals as goal

pub returns-in-Graph-clause-count : goal.returns-in-Graph-clause-count
returns-in-Graph-clause-count c =
    let twice = length-column_pairs c.args.size in
    let half : c.args.size * (c.args.size - 1) / 2 ≡ length (column_pairs c.args.size) = omega arith in
    ap (λ m. c.args.size * m / 2) c.saturating_sub.ensures ∙ half ∙ ap (λ f. length (pairs_of f c.args.size)) (sym c.in-Graph.is)

pub returns-in-Digraph-clause-count : goal.returns-in-Digraph-clause-count
returns-in-Digraph-clause-count c = sym (length-row_pairs c.args.size) ∙ ap (λ f. length (pairs_of f c.args.size)) (sym c.in-Digraph.is)

pub returns-in-Graph-clause-few : goal.returns-in-Graph-clause-few
returns-in-Graph-clause-few c =
    let less = c.saturating_sub.ensures in
    let most : c.args.size * c.saturating_sub.result ≤ MOST_POINTS * MOST_POINTS = mul-le c.args.size c.saturating_sub.result MOST_POINTS MOST_POINTS (omega arith) (omega arith) in
    omega arith

pub returns-in-Digraph-clause-few : goal.returns-in-Digraph-clause-few
returns-in-Digraph-clause-few c =
    let most : c.args.size * c.args.size ≤ MOST_POINTS * MOST_POINTS = mul-le c.args.size c.args.size MOST_POINTS MOST_POINTS (omega arith) (omega arith) in
    omega arith
