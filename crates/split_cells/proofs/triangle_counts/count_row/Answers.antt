use Rattle.std.proofs.Common.{◌≡◌, ◌==◌, ◌&&◌, ◌+◌, ◌*◌, ◌<◌, get_or, set, sym, ap, subst, ◌∙◌, arith}
use Rattle.split_cells.specs.Counts.{Counts}
use Rattle.split_cells.specs.Sides.{is_over_left}
use Rattle.split_cells.proofs.FirstSides.{IsRowCountedTo, IsRowCountedTo-hit, IsRowCountedTo-miss}
use Rattle.split_cells.proofs.triangle_counts.count_row.Goals as goal
use Rattle.split_cells.proofs.triangle_counts.count_row.Goals.{then-has_both, else-has_both}

pub loop-y-preserved : goal.loop-y-preserved
loop-y-preserved c =
    let n = c.args.pairs.now.size in
    let items = c.args.pairs.now.parting.class.items in
    let old = c.args.tally.now.counts in
    let t = c.args.t in
    let y = c.loop-y.y in
    let inside : y < n = omega (arith, c.loop-y-test.true, c.points-size.ensures) in
    let side = c.row-side.ensures.entries y inside in
    let own = c.row-own.ensures.entries y inside in
    let test : c.has_both.result ≡ is_over_left n items t c.args.x c.args.z y = c.has_both.ensures ∙ (λ i. (side i == t.right) && (own i == t.class)) in
    elim c.if-has_both.branch [
      | then-has_both w ↦
          let counts = c.loop-y.tally.counts in
          let written = ap (λ m. set counts (c.args.x * m + y) (get_or counts (c.args.x * m + y) 0 + 1)) c.points-size.ensures in
          subst (IsRowCountedTo n items t c.args.x c.args.z old (y + 1)) (sym (ap (λ (r : Counts). r.counts) w.tally-is ∙ w.bump.ensures.counts ∙ written))
          (IsRowCountedTo-hit n items t c.args.x c.args.z old c.requires.first y counts inside (sym test ∙ w.if-has_both.true) c.loop-y.invariant)
      | else-has_both w ↦
          subst (IsRowCountedTo n items t c.args.x c.args.z old (y + 1)) (sym (ap (λ (r : Counts). r.counts) w.tally-is))
          (IsRowCountedTo-miss n items t c.args.x c.args.z old c.requires.first y c.loop-y.tally.counts inside (sym test ∙ w.if-has_both.false) c.loop-y.invariant)
    ]
