use Rattle.std.proofs.Common.{[], map, vec_items, ap, subst}
use Rattle.std.proofs.lemmas.List.Sorted.{IsPermutation-map}
use Rattle.mergings.specs.Searches.{IsSearched, IsRisingList}
use Rattle.mergings.proofs.HeadLemmas.{heads_none, constant_none}
use Rattle.mergings.proofs.SearchLemmas.{extensions_found}
use Rattle.mergings.proofs.searching.extensions.Goals as goal

pub search-requires-clause-heads : goal.search-requires-clause-heads
search-requires-clause-heads c = heads_none _ _ c.requires.small c.own_heads.ensures.len c.own_heads.ensures.own

pub search-requires-clause-constant : goal.search-requires-clause-constant
search-requires-clause-constant c = constant_none _ _

pub returns-else-not-is_rising : goal.returns-else-not-is_rising
returns-else-not-is_rising c =
    let K = c.args.k.now in
    let prefix = c.args.prefix.now in
    let found = map vec_items c.search.new.found.items in
    let sorted = map vec_items c.sort.new.self.items in
    let searched : IsSearched K prefix [] found = subst (λ l. IsSearched K prefix l found) (ap (map vec_items) c.new-found.ensures.items) c.in_ok-search.ensures.searched in
    extensions_found K prefix found c.requires.growth c.requires.prefix searched c.own_heads.new.heads (c.in_ok-search.ensures.has c.in-More.is) sorted
    (IsPermutation-map vec_items c.search.new.found.items c.sort.new.self.items c.sort.ensures.permutation)
    (subst (λ l. IsRisingList (map vec_items l)) c.deref.ensures.value (c.is_rising.ensures c.if-not-is_rising.false))
