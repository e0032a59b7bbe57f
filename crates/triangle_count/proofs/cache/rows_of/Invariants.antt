use Rattle.std.proofs.Common.{◌≡◌, length}
use Rattle.triangle_count.proofs.CacheLemmas.{AreRowsTo}
use Rattle.triangle_count.proofs.cache.rows_of.Given as goal

abbrev pub invariant-loop-place : goal.invariant-loop-place
invariant-loop-place l = record {
  count : length l.rows.items ≡ l.place;
  rows : AreRowsTo l.c l.place l.rows.items;
}
