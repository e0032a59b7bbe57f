-- The points that pass a test, the first of them, and counts of them.
use Rattle.std.proofs.Common.{append-nil, ◌≡◌, ◌==◌, ◌&&◌, ℕ, ◌+◌, ◌<◌, ◌≤◌, Bool, true, false, cond, List, [], ◌∷◌, ◌++◌, length, get_or, map, filter, count_by, All, refl, sym, ap, ◌∙◌, arith}
use Rattle.std.specs.List.{list_any, position_or_len, AllPairs}
use Rattle.std.proofs.lemmas.Bool.{ne_eqb, eq-eqb, eqb-true, and_from}
use Rattle.std.proofs.lemmas.List.Elements.{filter-append, filter_passes, All-filter, All-get_or, All-from_get_or}
use Rattle.std.proofs.lemmas.List.FromFn.{get_or-range_with_len, length-range_with_len, length-map-range_with_len, get_or-map-range_with_len}
use Rattle.std.proofs.lemmas.Grind.{same_number_lists}
use Rattle.std.proofs.lemmas.List.Kept.{AllPairs-filter}
use Rattle.std.proofs.lemmas.List.Sums.{position_or_len_is, passes_at_first, fails_before_first, count_by-le-length, length-filter}
use Rattle.pair_colours.specs.Colouring.{points}
use Rattle.pair_colours.proofs.Counts.{points_more, count_by-map}
use Rattle.pair_colours.proofs.ListLemmas.{list_any-points, list_any-filter}
use Rattle.pair_colours.proofs.NumberedLists.{any_position}

pub at_point : (n z : ℕ) → z < n → get_or (points n) z 0 ≡ z
at_point n z l = omega (arith, get_or-range_with_len 0 n z 0 l)

-- the first point that passes, or n
pub first_is : (t : ℕ → Bool) (n y : ℕ) → y ≤ n → ((z : ℕ) → z < y → t z ≡ false) → (y < n → t y ≡ true) → position_or_len t (points n) ≡ y
first_is t n y l before here =
    let len = length-range_with_len 0 n in
    position_or_len_is t (points n) y 0 (omega (arith, l, len))
    (λ k b. ap t (at_point n k (omega (arith, b, l))) ∙ before k b)
    (λ b. let m : y < n = omega (arith, b, len) in ap t (at_point n y m) ∙ here m)

pub first_within : (t : ℕ → Bool) (n x : ℕ) → x < n → t x ≡ true → (position_or_len t (points n) < n) × (t (position_or_len t (points n)) ≡ true)
first_within t n x l e =
    let len = length-range_with_len 0 n in
    let low : position_or_len t (points n) < length (points n) = any_position t (points n) (list_any-points t n x l e) in
    let below : position_or_len t (points n) < n = omega (arith, low, len) in
    (below, ap t (sym (at_point n (position_or_len t (points n)) below)) ∙ passes_at_first t (points n) 0 low)

pub first_agree : (t u : ℕ → Bool) (n x : ℕ) → x < n → t x ≡ true → ((z : ℕ) → z < n → t z ≡ u z) → position_or_len t (points n) ≡ position_or_len u (points n)
first_agree t u n x l e same =
    let w = first_within u n x l (sym (same x l) ∙ e) in
    let len = length-range_with_len 0 n in
    first_is t n (position_or_len u (points n)) (omega (arith, w.0))
    (λ z b. let m : z < n = omega (arith, b, w.0) in same z m ∙ ap u (sym (at_point n z m)) ∙ fails_before_first u (points n) z 0 b)
    (λ b. same (position_or_len u (points n)) b ∙ w.1)

-- a step of a loop that gathers the points that pass
pub filter_points_yes : (t : ℕ → Bool) (y k : ℕ) → k ≡ y + 1 → t y ≡ true → filter t (points k) ≡ filter t (points y) ++ y ∷ []
filter_points_yes t y k s e =
    ap (λ m. filter t (points m)) s ∙ ap (filter t) (points_more y) ∙ filter-append t (points y) (y ∷ [])
    ∙ ap (λ b. filter t (points y) ++ cond b (y ∷ []) []) e

pub filter_points_no : (t : ℕ → Bool) (y k : ℕ) → k ≡ y + 1 → t y ≡ false → filter t (points k) ≡ filter t (points y)
filter_points_no t y k s e =
    ap (λ m. filter t (points m)) s ∙ ap (filter t) (points_more y) ∙ filter-append t (points y) (y ∷ [])
    ∙ ap (λ b. filter t (points y) ++ cond b (y ∷ []) []) e ∙ append-nil (filter t (points y))

-- the members of a list of the points that pass
pub filtered_below : (t : ℕ → Bool) (n : ℕ) → All (λ z. z < n) (filter t (points n))
filtered_below t n =
    All-filter t (λ z. z < n) (points n)
    (All-from_get_or (λ z. z < n) (points n) 0 (λ i l. let m : i < n = omega (arith, l, length-range_with_len 0 n) in omega (arith, at_point n i m, m)))

pub filtered_at : (t : ℕ → Bool) (n s : ℕ) → s < length (filter t (points n)) → (get_or (filter t (points n)) s 0 < n) × (t (get_or (filter t (points n)) s 0) ≡ true)
filtered_at t n s l =
    (All-get_or (λ z. z < n) (filter t (points n)) s 0 l (filtered_below t n), All-get_or (λ z. t z ≡ true) (filter t (points n)) s 0 l (filter_passes t (points n)))

pub filtered_few : (t : ℕ → Bool) (n : ℕ) → length (filter t (points n)) ≤ n
filtered_few t n = omega (arith, length-filter t (points n), count_by-le-length t (points n), length-range_with_len 0 n)

-- each later one is greater
filtered_rise : (t : ℕ → Bool) (n : ℕ) → AllPairs (λ j k. j < k) (filter t (points n))
filtered_rise t n =
    AllPairs-filter (λ j k. j < k) t (points n)
    (λ i j d l m.
    let b : j < n = omega (arith, m, length-range_with_len 0 n) in
    omega (arith, get_or-range_with_len 0 n i d (omega (arith, l, b)), get_or-range_with_len 0 n j d b, l))

-- so the place of the s-th one is s
pub filtered_place : (t : ℕ → Bool) (n s : ℕ) → s < length (filter t (points n)) → position_or_len (λ c. c == get_or (filter t (points n)) s 0) (filter t (points n)) ≡ s
filtered_place t n s l =
    let xs = filter t (points n) in
    position_or_len_is (λ c. c == get_or xs s 0) xs s 0 (omega (arith, l))
    (λ k b. ne_eqb (get_or xs k 0) (get_or xs s 0) (λ e. omega (arith, e, filtered_rise t n k s 0 b l)))
    (λ b. eq-eqb (get_or xs s 0) (get_or xs s 0) refl)

-- a point that passes has a place
pub filtered_has : (t : ℕ → Bool) (n z : ℕ) → z < n → t z ≡ true
    → (position_or_len (λ c. c == z) (filter t (points n)) < length (filter t (points n))) × (get_or (filter t (points n)) (position_or_len (λ c. c == z) (filter t (points n))) 0 ≡ z)
filtered_has t n z l e =
    let xs = filter t (points n) in
    let met : list_any (λ c. c == z) xs ≡ true =
    list_any-filter (λ c. c == z) t (points n) ∙ list_any-points (λ c. t c && (c == z)) n z l (and_from (t z) (z == z) e (eq-eqb z z refl)) in
    let low = any_position (λ c. c == z) xs met in
    (low, eqb-true (get_or xs (position_or_len (λ c. c == z) xs) 0) z (passes_at_first (λ c. c == z) xs 0 low))

-- a count over the places of a list
pub count_places : (q : ℕ → Bool) (xs : List ℕ) → count_by (λ r. q (get_or xs r 0)) (points (length xs)) ≡ count_by q xs
count_places q xs =
    let len = length-map-range_with_len (λ r. get_or xs r 0) 0 (length xs) in
    let same : map (λ r. get_or xs r 0) (points (length xs)) ≡ xs =
    same_number_lists (map (λ r. get_or xs r 0) (points (length xs))) xs len
    (λ k l. get_or-map-range_with_len (λ r. get_or xs r 0) 0 (length xs) k k 0 (omega (arith, l, len)) (omega arith)) in
    sym (count_by-map q (λ r. get_or xs r 0) (points (length xs))) ∙ ap (count_by q) same
