use Rattle.std.proofs.Common.{◌≡◌, ◌<◌, true, false, length, slice_index, sym, subst, ◌∙◌, arith, ⊎_elim}
use Rattle.std.proofs.lemmas.Bool.{eqb-true, eq-eqb, both_ways, cases_lt}
use Rattle.pair_colours.specs.Closure.{IsClosureOf}
use Rattle.pair_colours.specs.Naming.{rank_of}
use Rattle.colour_wl.specs.Fusions.{merge}
use Rattle.good_subsets.specs.Marked.{IsMarked}
use Rattle.pair_colours.proofs.SortedLists.{Contains_from_In}
use Rattle.good_subsets.proofs.GoodTest.{good_not_empty, good_exactly}
use Rattle.good_subsets.proofs.goodness.is_good.Goals as goal

pub returns-then-is_empty : goal.returns-then-is_empty
returns-then-is_empty c =
    let set = c.args.set.now in
    let none : length set ≡ 0 = eqb-true (length set) 0 (sym c.is_empty.ensures ∙ c.if-is_empty.true) in (
      λ t. let z : false ≡ true = t in cc,
      λ g. let m = good_not_empty c.args.k.now set g in let k = Contains_from_In set m.0 m.1 in absurd (omega (arith, k.1, none)),
    )

pub returns : goal.returns
returns c =
    let set = c.args.set.now in
    let some : 0 < length set = ⊎_elim (λ l. l) (λ l. absurd (both_ways c.is_empty.result c.if-is_empty.false (c.is_empty.ensures ∙ eq-eqb (length set) 0 (omega (arith, l))))) (cases_lt 0 (length set)) in
    let K = c.args.k.now in
    let string = c.in_ok-string.string.items in
    let closed = c.in_ok-closed.closed in
    let marks : IsMarked (rank_of K) set string = subst (λ n. IsMarked n set string) c.rank.ensures.value c.in_ok-string.ensures.marks in
    let closure : IsClosureOf (merge K closed) (merge K string) = subst (λ l. IsClosureOf (merge K closed) (merge K l)) c.deref.ensures.value c.in_ok-closed.ensures.closure in
    let exactly = good_exactly K c.rank.ensures.configuration set string closed c.requires marks closure some in
    let told = c.is_one_number.ensures in (
      λ t. exactly.0 (λ i l. subst (λ b. slice_index b (slice_index set i) ≡ slice_index b (slice_index set 0)) c.as_slice.ensures (told.0 t i l)),
      λ g. told.1 (λ i l. subst (λ b. slice_index b (slice_index set i) ≡ slice_index b (slice_index set 0)) (sym c.as_slice.ensures) (exactly.1 g i l)),
    )
