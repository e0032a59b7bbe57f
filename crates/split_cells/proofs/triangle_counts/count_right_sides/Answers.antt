use Rattle.std.proofs.Common.{◌≡◌, ◌==◌, ◌&&◌, ◌+◌, ◌*◌, ◌/◌, ◌%◌, ◌<◌, get_or, set, sym, ap, subst, ◌∙◌, arith}
use Rattle.split_cells.specs.Counts.{Counts}
use Rattle.split_cells.specs.Segments.{stands_at}
use Rattle.pair_colours.proofs.Places.{place_below}
use Rattle.split_cells.proofs.CellLemmas.{few_pairs}
use Rattle.split_cells.proofs.NestedSides.{IsSideCountedTo, IsSideCountedTo-hit, IsSideCountedTo-miss, IsRowCounted-over, second_in}
use Rattle.split_cells.proofs.triangle_counts.count_right_sides.Goals as goal
use Rattle.split_cells.proofs.triangle_counts.count_right_sides.Goals.{then-has_both, else-has_both}

pub loop-q-preserved : goal.loop-q-preserved
loop-q-preserved c =
    let pairs = c.args.pairs.now in
    let n = pairs.size in
    let class = pairs.parting.class.items in
    let h = c.requires.classed in
    let size = h.parting.classes ∙ h.bound in
    let m = c.members-q-items.ensures.members in
    let a = c.loop-q.q-index in
    let low = c.loop-q-test.true in
    let q = get_or c.members-q-items.result.now a 0 in
    let y = c.second-y.result in
    let t = c.args.t in
    let old = c.args.tally.now.counts in
    let counts = c.loop-q.tally.counts in
    let second : y < n = omega (arith, c.second-y.ensures, second_in n t m size c.args.x c.args.z old c.requires.first c.requires.third a low counts c.loop-q.invariant) in
    let own = c.row-own.ensures.entries y second ∙ ap (λ v. get_or class (c.args.x * n + v) 0) c.second-y.ensures in
    let test : c.has_both.result ≡ ((q / n == c.args.z) && (get_or class (c.args.x * n + q % n) 0 == t.class)) = c.has_both.ensures ∙ (λ i. (c.first.ensures i == c.args.z) && (own i == t.class)) in
    elim c.if-has_both.branch [
      | then-has_both w ↦
          let written = ap (λ k. set counts (c.args.x * k + y) (get_or counts (c.args.x * k + y) 0 + 1)) c.points-size.ensures in
          subst (IsSideCountedTo n class (stands_at pairs.parting t.right) t c.args.x c.args.z old (a + 1)) (sym (ap (λ (r : Counts). r.counts) w.tally-is ∙ w.bump.ensures.counts ∙ written))
          (IsSideCountedTo-hit n t m size c.args.x c.args.z old c.requires.first c.requires.third a low counts c.loop-q.invariant
          y (get_or counts (c.args.x * n + y) 0 + 1) c.second-y.ensures (λ i. get_or counts (c.args.x * n + y) 0 + 1) (sym test ∙ w.if-has_both.true))
      | else-has_both w ↦
          subst (IsSideCountedTo n class (stands_at pairs.parting t.right) t c.args.x c.args.z old (a + 1)) (sym (ap (λ (r : Counts). r.counts) w.tally-is))
          (IsSideCountedTo-miss n t m size c.args.x c.args.z old c.requires.first c.requires.third a low counts c.loop-q.invariant (sym test ∙ w.if-has_both.false))
    ]

pub returns : goal.returns
returns c =
    let pairs = c.args.pairs.now in
    let h = c.requires.classed in
    IsRowCounted-over pairs.size c.args.t c.members-q-items.ensures.members (h.parting.classes ∙ h.bound) c.args.x c.args.z c.args.tally.now.counts c.requires.first c.requires.third
    c.loop-q.q-index c.loop-q.tally.counts (omega (arith, c.loop-q-test.false)) c.loop-q.invariant

pub second-y-requires : goal.second-y-requires
second-y-requires c =
    let h = c.requires.classed in
    omega (arith, c.members-q-items.ensures.members.inside c.loop-q.q-index c.loop-q-test.true, h.parting.classes, h.bound)

pub first-requires : goal.first-requires
first-requires c =
    let h = c.requires.classed in
    omega (arith, c.members-q-items.ensures.members.inside c.loop-q.q-index c.loop-q-test.true, h.parting.classes, h.bound)

pub overflow_mul-x : goal.overflow_mul-x
overflow_mul-x c =
    let pairs = c.args.pairs.now in
    let n = pairs.size in
    let h = c.requires.classed in
    let y = c.second-y.result in
    let second : y < n = omega (
      arith,
      c.second-y.ensures,
      second_in n c.args.t c.members-q-items.ensures.members (h.parting.classes ∙ h.bound) c.args.x c.args.z c.args.tally.now.counts c.requires.first c.requires.third
          c.loop-q.q-index c.loop-q-test.true c.loop-q.tally.counts c.loop-q.invariant,
    ) in
    omega (arith, place_below n c.args.x y c.requires.first second, few_pairs n h.limit, ap (λ m. c.args.x * m) c.points-size.ensures)

pub overflow_add-x : goal.overflow_add-x
overflow_add-x c =
    let pairs = c.args.pairs.now in
    let n = pairs.size in
    let h = c.requires.classed in
    let y = c.second-y.result in
    let second : y < n = omega (
      arith,
      c.second-y.ensures,
      second_in n c.args.t c.members-q-items.ensures.members (h.parting.classes ∙ h.bound) c.args.x c.args.z c.args.tally.now.counts c.requires.first c.requires.third
          c.loop-q.q-index c.loop-q-test.true c.loop-q.tally.counts c.loop-q.invariant,
    ) in
    omega (arith, place_below n c.args.x y c.requires.first second, few_pairs n h.limit, ap (λ m. c.args.x * m) c.points-size.ensures)

pub bump-requires-clause-inside : goal.bump-requires-clause-inside
bump-requires-clause-inside c =
    let pairs = c.args.pairs.now in
    let n = pairs.size in
    let h = c.requires.classed in
    let y = c.second-y.result in
    let second : y < n = omega (
      arith,
      c.second-y.ensures,
      second_in n c.args.t c.members-q-items.ensures.members (h.parting.classes ∙ h.bound) c.args.x c.args.z c.args.tally.now.counts c.requires.first c.requires.third
          c.loop-q.q-index c.loop-q-test.true c.loop-q.tally.counts c.loop-q.invariant,
    ) in
    omega (arith, place_below n c.args.x y c.requires.first second, c.loop-q.invariant.len, ap (λ m. c.args.x * m) c.points-size.ensures)
