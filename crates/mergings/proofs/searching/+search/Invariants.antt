use Rattle.std.proofs.Common.{◌≡◌, ◌-◌, length, map, vec_items}
use Rattle.pair_colours.specs.Naming.{rank_of}
use Rattle.mergings.specs.Searches.{IsSearched}
use Rattle.mergings.proofs.SearchLemmas.{HasTried}
use Rattle.mergings.proofs.searching.+search.Given as goal

abbrev pub decreases-search : goal.decreases-search
decreases-search l = rank_of l.k.now - l.from

abbrev pub invariant-loop-i : goal.invariant-loop-i
invariant-loop-i l = record {
  more : length l.more ≡ 16;
  searched : IsSearched l.k l.prefix (map vec_items l.fn.found.items) (map vec_items l.found.items);
  tried : HasTried l.k l.prefix l.heads l.covered l.sets l.i (map vec_items l.found.items);
}
