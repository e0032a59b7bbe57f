-- The tables that stand on the distances: counts, first places, and the first place with other counts.
use Rattle.std.proofs.Common.{◌≡◌, ◌==◌, ◌&&◌, ℕ, zero, suc, ◌+◌, ◌*◌, ◌/◌, ◌%◌, ◌<◌, ◌≤◌, Bool, true, not, List, length, get_or, map, ◌⊎◌, inl, inr, refl, sym, ap, subst, arith, ⊎_elim}
use Rattle.std.specs.List.{position_or_len}
use Rattle.std.proofs.lemmas.Bool.{cases_lt, eq-eqb, eqb-true, and_parts, and_from, both_ways, not-true, not-false}
use Rattle.std.proofs.lemmas.List.FromFn.{get_or-map-range_with_len, length-map-range_with_len}
use Rattle.std.proofs.lemmas.List.Sums.{fails_before_first}
use Rattle.pair_colours.specs.Colouring.{points}
use Rattle.pair_colours.proofs.Places.{first_place}
use Rattle.pair_colours.proofs.Reaching.{first_below}
use Rattle.drg_arrays.specs.Graph.{Graph}
use Rattle.drg_arrays.specs.Tables.{neighbour_count, AreCounts, IsFirstPlace, AreFirstPlaces, IsAlikeAt, IsFirstUnlike}

pub some_counts : (G : Graph) (table : List ℕ) → (nearer : List ℕ) × ((farther : List ℕ) × AreCounts G table nearer farther)
some_counts G table =
    let n = G.size * G.size in
    let near : ℕ → ℕ = λ p. neighbour_count G table (p / G.size) (p % G.size) (get_or table p 0) in
    let far : ℕ → ℕ = λ p. neighbour_count G table (p / G.size) (p % G.size) (get_or table p 0 + 2) in (
      map near (points n),
      (
        map far (points n),
        record {
          nearer_len = length-map-range_with_len near 0 n;
          farther_len = length-map-range_with_len far 0 n;
          nearer_is = λ p l. get_or-map-range_with_len near 0 n p p 0 l (omega arith);
          farther_is = λ p l. get_or-map-range_with_len far 0 n p p 0 l (omega arith);
        },
      ),
    )

-- the first place of each number below a limit
abbrev pub firsts_of : List ℕ → ℕ → List ℕ
firsts_of xs limit = map (λ number. position_or_len (λ x. number == x) xs) (points limit)

pub AreFirstPlaces-firsts_of : (xs : List ℕ) (limit : ℕ) → ((p : ℕ) → p < length xs → get_or xs p 0 < limit) → AreFirstPlaces xs (firsts_of xs limit)
AreFirstPlaces-firsts_of xs limit small = record { at = λ p l. at p l }
  where
    at : (p : ℕ) → p < length xs → IsFirstPlace xs p (get_or (firsts_of xs limit) (get_or xs p 0) 0)
    at p l =
        let c = get_or xs p 0 in
        let f = first_place xs p c l refl in
        let e : get_or (firsts_of xs limit) c 0 ≡ position_or_len (λ x. c == x) xs =
        get_or-map-range_with_len (λ number. position_or_len (λ x. number == x) xs) 0 limit c c 0 (small p l) (omega arith) in
        subst (IsFirstPlace xs p) (sym e) (record {
          within = f.0;
          same = f.1;
          first = λ k lk s. ⊎_elim
              (λ (b : k < position_or_len (λ x. c == x) xs). absurd (both_ways (c == get_or xs k 0) (fails_before_first (λ x. c == x) xs k 0 b) (eq-eqb c (get_or xs k 0) (sym s))))
              (λ (b : position_or_len (λ x. c == x) xs ≤ k). b)
              (cases_lt k (position_or_len (λ x. c == x) xs));
        })

-- whether the counts at a place are those at the first place with the same distance
abbrev is_alike_at : List ℕ → List ℕ → List ℕ → List ℕ → ℕ → Bool
is_alike_at table firsts nearer farther p =
    (get_or nearer p 0 == get_or nearer (get_or firsts (get_or table p 0) 0) 0) && (get_or farther p 0 == get_or farther (get_or firsts (get_or table p 0) 0) 0)

alike_tells : (table firsts nearer farther : List ℕ) (p : ℕ) → is_alike_at table firsts nearer farther p ≡ true → IsAlikeAt table firsts nearer farther p
alike_tells table firsts nearer farther p h =
    let both = and_parts (get_or nearer p 0 == get_or nearer (get_or firsts (get_or table p 0) 0) 0) (get_or farther p 0 == get_or farther (get_or firsts (get_or table p 0) 0) 0) h in
    (eqb-true (get_or nearer p 0) (get_or nearer (get_or firsts (get_or table p 0) 0) 0) both.0, eqb-true (get_or farther p 0) (get_or farther (get_or firsts (get_or table p 0) 0) 0) both.1)

alike_passes : (table firsts nearer farther : List ℕ) (p : ℕ) → IsAlikeAt table firsts nearer farther p → is_alike_at table firsts nearer farther p ≡ true
alike_passes table firsts nearer farther p h =
    and_from (get_or nearer p 0 == get_or nearer (get_or firsts (get_or table p 0) 0) 0) (get_or farther p 0 == get_or farther (get_or firsts (get_or table p 0) 0) 0)
    (eq-eqb (get_or nearer p 0) (get_or nearer (get_or firsts (get_or table p 0) 0) 0) h.0) (eq-eqb (get_or farther p 0) (get_or farther (get_or firsts (get_or table p 0) 0) 0) h.1)

-- some place is the first with other counts, or there is none
pub unlike_or_alike : (table firsts nearer farther : List ℕ)
    → ((p : ℕ) × IsFirstUnlike table firsts nearer farther p) ⊎ ((k : ℕ) → k < length table → IsAlikeAt table firsts nearer farther k)
unlike_or_alike table firsts nearer farther =
    let alike : ℕ → Bool = is_alike_at table firsts nearer farther in
    ⊎_elim
    (λ s. inl (
      s.0,
      record {
        within = s.1.low;
        unlike = λ h. both_ways (alike s.0) (not-true (alike s.0) s.1.passes) (alike_passes table firsts nearer farther s.0 h);
        before = λ k l. alike_tells table firsts nearer farther k (not-false (alike k) (s.1.before k l));
      },
    ))
    (λ none. inr (λ k l. alike_tells table firsts nearer farther k (not-false (alike k) (none k l))))
    (first_below (λ k. not (alike k)) (length table))

-- a place where a function is greatest
pub greatest_place : (f : ℕ → ℕ) (n : ℕ) → 0 < n → (k : ℕ) × (k < n) × ((j : ℕ) → j < n → f j ≤ f k)
greatest_place f zero h = absurd (omega (arith, h))
greatest_place f (suc n) h = ⊎_elim
    (λ (l : 0 < n). later (greatest_place f n l))
    (λ (l : n ≤ 0). (n, omega arith, λ j b. let e : j ≡ n = omega (arith, l, b) in omega (arith, ap f e)))
    (cases_lt 0 n)
  where
    later : (k : ℕ) × (k < n) × ((j : ℕ) → j < n → f j ≤ f k) → (k : ℕ) × (k < suc n) × ((j : ℕ) → j < suc n → f j ≤ f k)
    later r = ⊎_elim
        (λ (l : f r.0 < f n). (
          n,
          omega arith,
          λ j b. ⊎_elim
              (λ (m : j < n). omega (arith, l, r.2 j m))
              (λ (m : n ≤ j). let e : j ≡ n = omega (arith, m, b) in omega (arith, ap f e))
              (cases_lt j n),
        ))
        (λ (l : f n ≤ f r.0). (
          r.0,
          omega (arith, r.1),
          λ j b. ⊎_elim
              (λ (m : j < n). r.2 j m)
              (λ (m : n ≤ j). let e : j ≡ n = omega (arith, m, b) in omega (arith, l, ap f e))
              (cases_lt j n),
        ))
        (cases_lt (f r.0) (f n))
