-- Counts over the points.
use Rattle.std.proofs.Common.{◌≡◌, ◌≢◌, ◌==◌, ℕ, ◌+◌, ◌*◌, ◌<◌, ◌≤◌, Bool, true, false, List, [], ◌∷◌, length, get_or, map, count_by, ⊎_elim, refl, sym, ap, ◌∙◌, arith, zero, suc}
use Rattle.std.specs.List.{remove}
use Rattle.std.proofs.lemmas.Bool.{cases_eq, cases_lt, eq-eqb, eqb-true, ne_eqb}
use Rattle.std.proofs.lemmas.List.Edits.{length-remove}
use Rattle.std.proofs.lemmas.List.Sums.{sum_by_push, sum_by-remove}
use Rattle.std.proofs.lemmas.List.FromFn.{length-range_with_len, get_or-range_with_len}
use Rattle.pair_colours.specs.Colouring.{points}
use Rattle.pair_colours.proofs.Counts.{unit_of, found, points_more, count_by-cons, count_by-map, count_by_points, count_more}

pub square_le : (m : ℕ) → 0 < m → m ≤ m * m
square_le zero l = absurd (omega (arith, l))
square_le (suc m) l = grind arith

-- a count with one point more
pub count_one_more : (p q : ℕ → Bool) (n z0 : ℕ) → z0 < n → ((z : ℕ) → z < n → z ≢ z0 → p z ≡ q z) → p z0 ≡ false → count_by q (points n) ≡ count_by p (points n) + unit_of (q z0)
count_one_more p q zero z0 l agree none = absurd (omega (arith, l))
count_one_more p q (suc n) z0 l agree none =
    ⊎_elim
    (λ e.
    let same = count_by_points p q n (λ z h. agree z (omega (arith, h)) (λ f. omega (arith, h, f, e))) in
    omega (arith, pn, qn, same, ap (λ z. unit_of (q z)) e, ap (λ z. unit_of (p z)) e, ap unit_of none))
    (λ ne.
    let again = count_one_more p q n z0 (omega (arith, l, ne)) (λ z h o. agree z (omega (arith, h)) o) none in
    omega (arith, pn, qn, again, ap unit_of (agree n (omega arith) (λ f. ne (sym f)))))
    (cases_eq z0 n)
  where
    more : (k : ℕ → Bool) → count_by k (points (suc n)) ≡ count_by k (points n) + unit_of (k n)
    more k =
        let m : suc n ≡ n + 1 = omega arith in
        ap (λ w. count_by k (points w)) m ∙ ap (count_by k) (points_more n) ∙ sum_by_push (λ w. unit_of (k w)) (points n) n

    pn : count_by p (points (suc n)) ≡ count_by p (points n) + unit_of (p n)
    pn = more p

    qn : count_by q (points (suc n)) ≡ count_by q (points n) + unit_of (q n)
    qn = more q

-- where nothing passes
pub count_none : (p : ℕ → Bool) (n : ℕ) → ((z : ℕ) → z < n → p z ≡ false) → count_by p (points n) ≡ 0
count_none p zero none = refl
count_none p (suc n) none =
    let again = count_none p n (λ z h. none z (omega (arith, h))) in
    let m : suc n ≡ n + 1 = omega arith in
    let step : count_by p (points (suc n)) ≡ count_by p (points n) + unit_of (p n) = ap (λ w. count_by p (points w)) m ∙ ap (count_by p) (points_more n) ∙ sum_by_push (λ w. unit_of (p w)) (points n) n in
    omega (arith, again, step, ap unit_of (none n (omega arith)))

-- a count that is not 0 has a point
pub counted_point : (p : ℕ → Bool) (n : ℕ) → 0 < count_by p (points n) → (z : ℕ) × (z < n) × (p z ≡ true)
counted_point p n h =
    let k = found p (points n) h in
    let l : k.0 < n = omega (arith, k.1, length-range_with_len 0 n) in
    let at : get_or (points n) k.0 0 ≡ k.0 = omega (arith, get_or-range_with_len 0 n k.0 0 l) in
    (k.0, l, ap p (sym at) ∙ k.2 0)

-- a point that passes is not counted before
pub count_hit : (p : ℕ → Bool) (z m : ℕ) → p z ≡ true → count_by p (points z) < count_by p (points (z + 1 + m))
count_hit p z zero h =
    let e : z + 1 + 0 ≡ z + 1 = omega arith in
    omega (arith, ap (λ w. count_by p (points w)) e, count_more p z (count_by p (points z)) (count_by p (points z) + unit_of (p z)) refl refl, ap unit_of h)
count_hit p z (suc m) h =
    let e : z + 1 + suc m ≡ z + 1 + m + 1 = omega arith in
    let more = count_more p (z + 1 + m) (count_by p (points (z + 1 + m))) (count_by p (points (z + 1 + m)) + unit_of (p (z + 1 + m))) refl refl in
    omega (arith, ap (λ w. count_by p (points w)) e, more, count_hit p z m h)

-- a list whose numbers come no more often than in another is no longer
le_from_counts : (xs ys : List ℕ) → ((c : ℕ) → count_by (λ y. y == c) xs ≤ count_by (λ y. y == c) ys) → length xs ≤ length ys
le_from_counts [] ys h = omega arith
le_from_counts (x ∷ xs) ys h =
    let some : 0 < count_by (λ y. y == x) ys = omega (arith, h x, count_by-cons (λ y. y == x) x xs, ap unit_of (eq-eqb x x refl)) in
    let k = found (λ y. y == x) ys some in
    let is : get_or ys k.0 0 ≡ x = eqb-true _ x (k.2 0) in
    let fewer = le_from_counts xs (remove ys k.0) (λ c.
    let less = sum_by-remove (λ y. unit_of (y == c)) ys k.0 0 k.1 in
    let same : unit_of (get_or ys k.0 0 == c) ≡ unit_of (x == c) = ap (λ y. unit_of (y == c)) is in
    omega (arith, h c, count_by-cons (λ y. y == c) x xs, less, same)) in
    omega (arith, fewer, length-remove ys k.0 k.1)

-- and where it is as long, its numbers come equally often
pub same_counts : (xs ys : List ℕ) → length xs ≡ length ys → ((c : ℕ) → count_by (λ y. y == c) xs ≤ count_by (λ y. y == c) ys)
    → (c : ℕ) → count_by (λ y. y == c) xs ≡ count_by (λ y. y == c) ys
same_counts xs ys e h c =
    ⊎_elim
    (λ l.
    let longer = le_from_counts (c ∷ xs) ys (λ d. ⊎_elim
    (λ s. omega (arith, count_by-cons (λ y. y == d) c xs, ap unit_of (eq-eqb c d s), l, ap (λ w. count_by (λ y. y == w) xs) s, ap (λ w. count_by (λ y. y == w) ys) s))
    (λ ne. omega (arith, count_by-cons (λ y. y == d) c xs, ap unit_of (ne_eqb c d ne), h d))
    (cases_eq c d)) in
    absurd (omega (arith, longer, e)))
    (λ g. omega (arith, g, h c))
    (cases_lt (count_by (λ y. y == c) xs) (count_by (λ y. y == c) ys))

-- a count of sums is that of the list of the sums
pub count_of_list : (f : ℕ → ℕ) (n c : ℕ) → count_by (λ z. f z == c) (points n) ≡ count_by (λ y. y == c) (map f (points n))
count_of_list f n c = sym (count_by-map (λ y. y == c) f (points n))
