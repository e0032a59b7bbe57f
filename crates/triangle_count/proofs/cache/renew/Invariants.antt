use Rattle.triangle_count.specs.Cache.{AreRightWhereUnmarked}
use Rattle.triangle_count.proofs.CacheLemmas.{AreRowsTo}
use Rattle.triangle_count.proofs.cache.renew.Given as goal

abbrev pub invariant-loop-place : goal.invariant-loop-place
invariant-loop-place l = record {
  done : AreRowsTo l.c l.place l.rows.items;
  kept : AreRightWhereUnmarked l.c l.marks.lefts.items l.marks.rights.items l.rows.items;
}
