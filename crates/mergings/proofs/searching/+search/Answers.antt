use Rattle.std.proofs.Common.{◌≡◌, ◌+◌, ◌^◌, ◌<◌, ◌≤◌, length, map, vec_items, slice_index, true, refl, sym, ap, subst, arith, ⊎_elim}
use Rattle.std.proofs.lemmas.Bool.{cases_lt}
use Rattle.std.proofs.lemmas.List.{length-map}
use Rattle.pair_colours.specs.Naming.{rank_of}
use Rattle.visitors.specs.Masks.{is_member}
use Rattle.mergings.specs.Searches.{IsLeast, IsSearched}
use Rattle.mergings.proofs.SearchLemmas.{HasTried, searched_none, searched_more, tried_none, tried_yes, tried_no, tried_all}
use Rattle.mergings.proofs.searching.+search.Goals as goal
use Rattle.mergings.proofs.searching.+search.Goals.{in-Some+in_ok-search-in-Some+in-More, in-None}

pub with_least-sets-requires : goal.with_least-sets-requires
with_least-sets-requires t c = omega (arith, c.if-free-rank.false, c.first_free-free.ensures.inside, c.rank-rank.ensures.value, c.requires.goods.len, length-map c.args.goods.now vec_items)

pub loop-i-init : goal.loop-i-init
loop-i-init t c = record {
  more = refl;
  searched = searched_none c.args.k.now c.args.prefix.now (map vec_items c.args.found.now.items);
  tried = tried_none c.args.k.now c.args.prefix.now c.args.heads.now c.args.covered c.with_least-sets.result.now (map vec_items c.args.found.now.items);
}

pub extended-requires-clause-set : goal.extended-requires-clause-set
extended-requires-clause-set t c =
    let low : c.first_free-free.result < rank_of c.args.k.now = omega (arith, c.if-free-rank.false, c.first_free-free.ensures.inside, c.rank-rank.ensures.value) in
    subst (λ s. slice_index s c.loop-i.i < 2 ^ rank_of c.args.k.now) (sym c.with_least-sets.ensures)
    (c.requires.goods.low c.first_free-free.result c.loop-i.i low (subst (λ s. c.loop-i.i < length s) c.with_least-sets.ensures c.loop-i-test.true))

pub extended-requires-clause-least : goal.extended-requires-clause-least
extended-requires-clause-least t c =
    let low : c.first_free-free.result < rank_of c.args.k.now = omega (arith, c.if-free-rank.false, c.first_free-free.ensures.inside, c.rank-rank.ensures.value) in
    subst (λ s. IsLeast (slice_index s c.loop-i.i) c.first_free-free.result) (sym c.with_least-sets.ensures)
    (c.requires.goods.least c.first_free-free.result c.loop-i.i low (subst (λ s. c.loop-i.i < length s) c.with_least-sets.ensures c.loop-i-test.true))

pub extended-requires-clause-low : goal.extended-requires-clause-low
extended-requires-clause-low t c = omega (arith, c.if-free-rank.false, c.first_free-free.ensures.inside, c.rank-rank.ensures.value)

pub extended-requires-clause-free : goal.extended-requires-clause-free
extended-requires-clause-free t c = c.first_free-free.ensures.free (omega (arith, c.if-free-rank.false, c.first_free-free.ensures.inside))

pub search-requires : goal.search-requires
search-requires t c =
    let K = c.args.k.now in
    let free = c.first_free-free.result in
    let set = slice_index c.with_least-sets.result.now c.loop-i.i in
    let low : free < rank_of K = omega (arith, c.if-free-rank.false, c.first_free-free.ensures.inside, c.rank-rank.ensures.value) in
    let x = c.in-Some.ensures.some in
    let least = subst (λ s. IsLeast (slice_index s c.loop-i.i) free) (sym c.with_least-sets.ensures) (c.requires.goods.least free c.loop-i.i low (subst (λ s. c.loop-i.i < length s) c.with_least-sets.ensures c.loop-i-test.true)) in (
      omega (arith, c.decreases, low, c.first_free-free.ensures.later),
      (
        c.requires.small,
        (
          c.requires.table,
          (
            c.requires.goods,
            (
              c.requires.prefix,
              (
                omega (arith, low),
                (
                  x.are,
                  (
                    λ d l. ⊎_elim
                        (λ (m : d < free). x.kept d (omega (arith, m, low)) (c.first_free-free.ensures.covered d m))
                        (λ (m : free ≤ d). let e : free ≡ d = omega (arith, m, l) in subst (λ f. is_member c.in-Some.all f ≡ true) e (x.own free low least.has))
                        (cases_lt d free),
                    c.in-Some.ensures.constant,
                  ),
                ),
              ),
            ),
          ),
        ),
      ),
    )

pub returns-in-Stop-clause-searched : goal.returns-in-Stop-clause-searched
returns-in-Stop-clause-searched t c =
    let old = map vec_items c.args.found.now.items in
    let mid = map vec_items c.loop-i.found.items in
    let new = map vec_items c.search.new.found.items in
    searched_more c.args.k.now c.args.prefix.now old mid new c.loop-i.invariant.searched c.in_ok-search-in-Some.ensures.searched

pub returns-clause-has : goal.returns-clause-has
returns-clause-has t c = λ _.
    let K = c.args.k.now in
    let free = c.first_free-free.result in
    let inside : free < c.rank-rank.result = omega (arith, c.if-free-rank.false, c.first_free-free.ensures.inside) in
    let low : free < rank_of K = omega (arith, inside, c.rank-rank.ensures.value) in
    let found = map vec_items c.loop-i.found.items in
    let goods = map vec_items c.args.goods.now in
    tried_all K c.args.prefix.now c.args.heads.now c.args.covered free goods found c.requires.goods c.requires.heads low c.first_free-free.ensures.covered (c.first_free-free.ensures.free inside) c.loop-i.i
    (omega (arith, c.loop-i-test.false, ap length c.with_least-sets.ensures))
    (subst (λ s. HasTried K c.args.prefix.now c.args.heads.now c.args.covered s c.loop-i.i found) c.with_least-sets.ensures c.loop-i.invariant.tried)

pub loop-i-preserved : goal.loop-i-preserved
loop-i-preserved t c =
    let K = c.args.k.now in
    let i = c.loop-i.i in
    let sets = c.with_least-sets.result.now in
    let heads = c.args.heads.now in
    let prefix = c.args.prefix.now in
    let old = map vec_items c.args.found.now.items in
    let mid = map vec_items c.loop-i.found.items in
    elim c.match-extended.branch [
      | in-Some+in_ok-search-in-Some+in-More w ↦
          let new = map vec_items w.search.new.found.items in
          let same : map vec_items c.match-extended.found.items ≡ new = (λ i. map vec_items (w.found-is i).items) in
          record {
            more = c.extended.ensures.len;
            searched = subst (IsSearched K prefix old) (sym same) (searched_more K prefix old mid new c.loop-i.invariant.searched w.in_ok-search-in-Some.ensures.searched);
            tried = subst (HasTried K prefix heads c.args.covered sets (i + 1)) (sym same)
                (tried_yes K prefix heads c.args.covered sets i mid c.loop-i.invariant.tried c.extended.new.more w.in-Some.all new w.in-Some.ensures.some w.in_ok-search-in-Some.ensures.searched (w.in_ok-search-in-Some.ensures.has w.in-More.is));
          }
      | in-None w ↦
          let same : map vec_items c.match-extended.found.items ≡ mid = (λ i. map vec_items (w.found-is i).items) in
          record {
            more = c.extended.ensures.len;
            searched = subst (IsSearched K prefix old) (sym same) c.loop-i.invariant.searched;
            tried = subst (HasTried K prefix heads c.args.covered sets (i + 1)) (sym same) (tried_no K prefix heads c.args.covered sets i mid c.loop-i.invariant.tried (c.extended.ensures.none w.in-None.is));
          }
    ]
