use Rattle.std.proofs.Common.{◌≡◌, ◌/◌, ◌%◌, ◌+◌, ◌-◌, ◌<◌, ℕ, All, length, take, drop, map, get_or, sym, subst, ◌∙◌, arith}
use Rattle.std.proofs.lemmas.List.{get_or_read}
use Rattle.drg_arrays.specs.IntersectionArray.{HasArray}
use Rattle.drg_arrays.specs.Answer.{IsIrregularAt}
use Rattle.drg_arrays.specs.Tables.{IsFirstUnlike, IsAlikeAt}
use Rattle.drg_arrays.proofs.Regular.{IsIrregularAt-from_place, HasArray-from_tables, farther_within, nearer_within}
use Rattle.drg_arrays.proofs.arrays.compared.Goals as goal

pub returns-in-Some : goal.returns-in-Some
returns-in-Some c =
    let G = c.args.graph.now in
    let table = c.args.distances.now in
    let nearer = c.in_ok-counts.counts.nearer.items in
    let farther = c.in_ok-counts.counts.farther.items in
    let firsts = c.in_ok-firsts.firsts.items in
    let p = c.in-Some.place in
    let q = c.index-first.result.now in
    let unlike : IsFirstUnlike table firsts nearer farther p = subst (λ fs. IsFirstUnlike table fs nearer farther p) c.deref.ensures.value c.in-Some.ensures.some in
    let low : get_or table p 0 < length firsts = omega (arith, c.requires.small p unlike.within, c.in_ok-firsts.ensures.len) in
    let first : q ≡ get_or firsts (get_or table p 0) 0 = get_or_read firsts (get_or table p 0) q low c.index-first.ensures 0 in
    subst (λ n. IsIrregularAt G (q / n) (q % n) (p / n) (p % n)) (sym c.size-size.ensures.points)
    (IsIrregularAt-from_place G table nearer farther firsts c.size-size.ensures.within.has_points c.requires c.in_ok-counts.ensures c.in_ok-firsts.ensures.at p q unlike first)

pub numbers_at-requires-clause-within : goal.numbers_at-requires-clause-within
numbers_at-requires-clause-within c =
    let G = c.args.graph.now in
    let d = c.greatest-diameter.result in
    let firsts = c.in_ok-firsts.firsts.items in
    let farther = c.in_ok-counts.counts.farther.items in
    subst (λ fs. All (λ place. place < length c.deref-3.result.now) (take d fs)) (sym c.deref-2.ensures.value)
    (subst (λ xs. All (λ place. place < length xs) (take d firsts)) (sym c.deref-3.ensures.value)
    (farther_within G c.args.distances.now c.in_ok-counts.counts.nearer.items farther firsts c.size-size.ensures.within.has_points c.requires c.in_ok-counts.ensures c.in_ok-firsts.ensures.at
    d (c.in_ok-firsts.ensures.len ∙ c.size-size.ensures.points) c.greatest-diameter.ensures.bound c.greatest-diameter.ensures.found))

pub numbers_at-requires-2-clause-within : goal.numbers_at-requires-2-clause-within
numbers_at-requires-2-clause-within c =
    let G = c.args.graph.now in
    let d = c.greatest-diameter.result in
    let firsts = c.in_ok-firsts.firsts.items in
    let nearer = c.in_ok-counts.counts.nearer.items in
    let same : d ≡ d + 1 - 1 = omega arith in
    subst (λ n. All (λ place. place < length c.deref-5.result.now) (take n (drop 1 c.deref-4.result.now))) same
    (subst (λ fs. All (λ place. place < length c.deref-5.result.now) (take d (drop 1 fs))) (sym c.deref-4.ensures.value)
    (subst (λ xs. All (λ place. place < length xs) (take d (drop 1 firsts))) (sym c.deref-5.ensures.value)
    (nearer_within G c.args.distances.now nearer c.in_ok-counts.counts.farther.items firsts c.size-size.ensures.within.has_points c.requires c.in_ok-counts.ensures c.in_ok-firsts.ensures.at
    d (c.in_ok-firsts.ensures.len ∙ c.size-size.ensures.points) c.greatest-diameter.ensures.bound c.greatest-diameter.ensures.found)))

pub returns : goal.returns
returns c =
    let G = c.args.graph.now in
    let d = c.greatest-diameter.result in
    let table = c.args.distances.now in
    let firsts = c.in_ok-firsts.firsts.items in
    let nearer = c.in_ok-counts.counts.nearer.items in
    let farther = c.in_ok-counts.counts.farther.items in
    let same : d + 1 - 1 ≡ d = omega arith in
    let b : c.in_ok-b.b ≡ map (λ place. get_or farther place 0) (take d firsts) =
    c.in_ok-b.ensures ∙ (λ i. map (λ place. get_or (c.deref-3.ensures.value i) place 0) (take d (c.deref-2.ensures.value i))) in
    let e : c.in_ok-c.c ≡ map (λ place. get_or nearer place 0) (take d (drop 1 firsts)) =
    c.in_ok-c.ensures ∙ (λ i. map (λ place. get_or (c.deref-5.ensures.value i) place 0) (take (same i) (drop 1 (c.deref-4.ensures.value i)))) in
    let alike : (k : ℕ) → k < length table → IsAlikeAt table firsts nearer farther k = subst (λ fs. (k : ℕ) → k < length table → IsAlikeAt table fs nearer farther k) c.deref.ensures.value c.in_default.ensures.none in
    subst (λ xs. HasArray G xs c.in_ok-c.c) (sym b)
    (subst (HasArray G (map (λ place. get_or farther place 0) (take d firsts))) (sym e)
    (HasArray-from_tables G table nearer farther firsts c.size-size.ensures.within.has_points c.requires c.in_ok-counts.ensures c.in_ok-firsts.ensures.at
    d (c.in_ok-firsts.ensures.len ∙ c.size-size.ensures.points) c.greatest-diameter.ensures.bound c.greatest-diameter.ensures.found alike))
