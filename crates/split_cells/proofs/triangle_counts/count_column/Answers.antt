use Rattle.std.proofs.Common.{◌≡◌, ◌==◌, ◌&&◌, ◌+◌, ◌*◌, ◌<◌, get_or, set, sym, ap, subst, ◌∙◌, arith}
use Rattle.split_cells.specs.Counts.{Counts}
use Rattle.split_cells.specs.Sides.{is_over_right}
use Rattle.split_cells.proofs.SecondSides.{IsColumnCountedTo, IsColumnCountedTo-hit, IsColumnCountedTo-miss}
use Rattle.split_cells.proofs.triangle_counts.count_column.Goals as goal
use Rattle.split_cells.proofs.triangle_counts.count_column.Goals.{then-has_both, else-has_both}

pub loop-x-preserved : goal.loop-x-preserved
loop-x-preserved c =
    let n = c.args.pairs.now.size in
    let items = c.args.pairs.now.turned.items in
    let old = c.args.tally.now.counts in
    let t = c.args.t in
    let x = c.loop-x.x in
    let inside : x < n = omega (arith, c.loop-x-test.true, c.points-size.ensures) in
    let side = c.column-side.ensures.entries x inside in
    let own = c.column-own.ensures.entries x inside in
    let test : c.has_both.result ≡ is_over_right n items t c.args.z c.args.y x = c.has_both.ensures ∙ (λ i. (side i == t.left) && (own i == t.class)) in
    elim c.if-has_both.branch [
      | then-has_both w ↦
          let counts = c.loop-x.tally.counts in
          let written = ap (λ m. set counts (x * m + c.args.y) (get_or counts (x * m + c.args.y) 0 + 1)) c.points-size.ensures in
          subst (IsColumnCountedTo n items t c.args.z c.args.y old (x + 1)) (sym (ap (λ (r : Counts). r.counts) w.tally-is ∙ w.bump.ensures.counts ∙ written))
          (IsColumnCountedTo-hit n items t c.args.z c.args.y old c.requires.second x counts inside (sym test ∙ w.if-has_both.true) c.loop-x.invariant)
      | else-has_both w ↦
          subst (IsColumnCountedTo n items t c.args.z c.args.y old (x + 1)) (sym (ap (λ (r : Counts). r.counts) w.tally-is))
          (IsColumnCountedTo-miss n items t c.args.z c.args.y old c.requires.second x c.loop-x.tally.counts inside (sym test ∙ w.if-has_both.false) c.loop-x.invariant)
    ]
