use Rattle.std.proofs.Common.{◌≡◌, ◌+◌, length, drop, set, replicate, sym, subst, ap, ◌∙◌, arith, rules}
use Rattle.std.proofs.lemmas.List.{take_at}
use Rattle.pair_colours.proofs.Counts.{unit_of}
use Rattle.drg_arrays.specs.declared.levels.TheConstants.{UNREACHED}
use Rattle.drg_arrays.specs.Tables.{IsNextLevel, IsDistanceRow, unreached_count}
use Rattle.drg_arrays.proofs.Marks.{still}
use Rattle.drg_arrays.proofs.Searches.{IsLevelled, IsLevelled-start, IsLevelled-next, IsDistanceRow-from_levels}
use Rattle.drg_arrays.proofs.levels.distances_from.Goals as goal

pub loop-level-init : goal.loop-level-init
loop-level-init c =
    let G = c.args.graph.now in
    let e : c.in_ok-levels.levels.items ≡ replicate c.size.result UNREACHED = search rules in
    subst (λ ls. IsLevelled G c.args.x (set ls c.args.x 0) 0) (sym (e ∙ ap (λ n. replicate n UNREACHED) c.size.ensures.points)) (IsLevelled-start G c.args.x c.requires)

pub loop-level-preserved : goal.loop-level-preserved
loop-level-preserved c =
    let G = c.args.graph.now in
    let x = c.args.x in
    let old = c.loop-level.levels.items in
    let new = c.mark_next.new.levels in
    let level = c.loop-level.level in
    let from = c.deref_mut.ensures.value in
    let one : unit_of c.mark_next.result ≡ 1 = ap unit_of c.loop-level-test.true in
    let whole = take_at new (drop (length new) old) c.loop-level.levels.len (omega arith) in
    subst (λ ls. IsLevelled G x ls (level + 1)) (sym whole)
    (IsLevelled-next G x old new level c.size.ensures.within.limit c.loop-level.invariant (subst (λ ls. IsNextLevel G ls new level G.size) from c.mark_next.ensures.next)
    (omega arith) (omega (arith, c.mark_next.ensures.fewer, one, ap unreached_count from)))

pub returns : goal.returns
returns c =
    let G = c.args.graph.now in
    let x = c.args.x in
    let old = c.loop-level.levels.items in
    let new = c.mark_next.new.levels in
    let level = c.loop-level.level in
    let from = c.deref_mut.ensures.value in
    let same : new ≡ old = still c.deref_mut.result.now new c.mark_next.result c.loop-level-test.false c.mark_next.ensures.same ∙ from in
    let whole = take_at new (drop (length new) old) c.loop-level.levels.len (omega arith) in
    let next = subst (λ ls. IsNextLevel G ls new level G.size) from c.mark_next.ensures.next in
    subst (IsDistanceRow G x) (sym (whole ∙ same))
    (IsDistanceRow-from_levels G x old level c.size.ensures.within.limit c.loop-level.invariant (subst (λ ls. IsNextLevel G old ls level G.size) same next))
