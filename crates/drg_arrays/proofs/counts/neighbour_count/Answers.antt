use Rattle.std.proofs.Common.{◌≡◌, ◌+◌, ◌*◌, ℕ, Bool, get_or, sym, subst, ◌∙◌, arith}
use Rattle.drg_arrays.specs.Graph.{is_edge}
use Rattle.drg_arrays.proofs.Counting.{counted_both, counted_apart, counted_unequal}
use Rattle.drg_arrays.proofs.counts.neighbour_count.Goals as goal
use Rattle.drg_arrays.proofs.counts.neighbour_count.Goals.{then-has_edge+then-is_there, else-has_edge, else-has_edge-via-then-has_edge+else-is_there, else-has_edge-via-else-has_edge}

pub loop-w-preserved : goal.loop-w-preserved
loop-w-preserved c =
    let G = c.args.graph.now in
    let d = c.args.distances.now in
    let at = c.loop-w.w in
    let edge : ℕ → Bool = is_edge G c.args.v in
    let left : ℕ → ℕ = λ z. get_or d (c.args.u * G.size + z) 0 + 1 in
    let right : ℕ → ℕ = λ z. c.args.end in
    let Same : ℕ → Type 0 = λ n. get_or d (c.args.u * n + at) 0 + 1 ≡ c.args.end in
    elim c.if-has_edge.branch [
      | then-has_edge+then-is_there w ↦ record {
        counted = w.count-is ∙ counted_both edge left right at c.loop-w.count (sym c.has_edge.ensures ∙ w.if-has_edge.true) (subst Same c.size.ensures.points w.if-is_there.true) c.loop-w.invariant.counted;
        few = omega (arith, w.count-is);
      }
      | else-has_edge w ↦ record {
        counted = w.count-is ∙ elim w.else-has_edge.branch [
          | else-has_edge-via-then-has_edge+else-is_there v ↦
              counted_unequal edge left right at c.loop-w.count (λ e. v.if-is_there.false (subst Same (sym c.size.ensures.points) e)) c.loop-w.invariant.counted
          | else-has_edge-via-else-has_edge v ↦ counted_apart edge left right at c.loop-w.count (sym c.has_edge.ensures ∙ v.if-has_edge.false) c.loop-w.invariant.counted
        ];
        few = omega (arith, w.count-is);
      }
    ]
