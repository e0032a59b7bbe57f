use Rattle.std.proofs.Common.{subst}
use Rattle.pair_colours.specs.Colouring.{PairColouring}
use Rattle.triangle_count.specs.Cache.{AreMarked, AreRowsOf}
use Rattle.triangle_count.proofs.CacheLemmas.{AreRightWhereUnmarked-from_rows}
use Rattle.triangle_count.proofs.cache.Cache.refresh.Goals as goal

pub renew-requires-clause-kept : goal.renew-requires-clause-kept
renew-requires-clause-kept c =
    let C = c.args.c.now in
    let changed = c.args.changed.now in
    let lefts = c.in_ok-marks.marks.lefts.items in
    let rights = c.in_ok-marks.marks.rights.items in
    let marked : AreMarked C.size changed lefts rights = subst (λ n. AreMarked n changed lefts rights) c.size.ensures.points c.in_ok-marks.ensures in
    let rows = c.self.inside.rows.items in
    let kept : AreRowsOf c.args.self rows = subst (λ (A : PairColouring). AreRowsOf A rows) c.self.view_is c.self.invariant in
    AreRightWhereUnmarked-from_rows c.args.self C changed lefts rights rows kept c.requires marked
