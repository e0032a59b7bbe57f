-- What keys make of the cells.
use Rattle.std.proofs.Common.{◌≡◌, ◌==◌, ◌&&◌, nat_lt, ℕ, ◌+◌, ◌-◌, ◌<◌, ◌≤◌, Bool, true, false, cond, List, [], ◌∷◌, length, get_or, map, filter, count_by, ⊎_elim, refl, sym, ap, subst, ◌∙◌, arith, if◌then◌else◌}
use Rattle.std.specs.List.{AllByRecursion}
use Rattle.std.proofs.lemmas.Bool.{cases_lt, cases_eq, eq-eqb, ne_eqb, eqb-true, and_from}
use Rattle.std.proofs.lemmas.Grind.{same_number_lists}
use Rattle.std.proofs.lemmas.List.FromFn.{get_or-map-range_with_len, length-map-range_with_len}
use Rattle.std.proofs.lemmas.List.Sums.{count_by-le-length}
use Rattle.pair_colours.specs.Colouring.{points}
use Rattle.pair_colours.specs.Naming.{first_met}
use Rattle.pair_colours.specs.ColourSets.{is_in}
use Rattle.pair_colours.proofs.ListLemmas.{Each-map, Each-passed, Each-weaker, Each-points, map_agree, list_any-map, list_any-filter, list_any-points}
use Rattle.pair_colours.proofs.Names.{Each-first_met, met_all}
use Rattle.pair_colours.proofs.Below.{bounded, below, below_all, below_next, below-lt, met_once, counted_from_any, holds_where_counted, number_with_below}
use Rattle.equitable.specs.Equitable.{cell_count}
use Rattle.equitable.specs.CellSplit.{keys_in, part_number, parted_by}
use Rattle.equitable.specs.Cells.{UsesBelow}
use Rattle.equitable.proofs.CellNumbers.{cell_count_used, is_in_from, point_of}

module _ (W : List ℕ) (c : ℕ) (key : ℕ → ℕ) where
  -- a point of cell c has the key
  pub record HasKey (t : ℕ) : Type 0 where
    pub x : ℕ
    pub inside : x < length W
    pub lies : get_or W x 0 ≡ c
    pub is : key x ≡ t

  pub key_counts : (x : ℕ) → x < length W → get_or W x 0 ≡ c → 0 < count_by (λ t. key x == t) (keys_in W c key)
  key_counts x l e =
      let t : ℕ = key x in
      let here : List ℕ = filter (λ z. get_or W z 0 == c) (points (length W)) in
      counted_from_any (keys_in W c key) t
      (met_all (map key here) t
      (list_any-map (λ o. t == o) key here
      ∙ list_any-filter (λ z. t == key z) (λ z. get_or W z 0 == c) (points (length W))
      ∙ list_any-points (λ z. (get_or W z 0 == c) && (t == key z)) (length W) x l (and_from _ _ (eq-eqb _ _ e) (eq-eqb t t refl))))

  pub key_found : (t : ℕ) → 0 < count_by (λ o. t == o) (keys_in W c key) → HasKey t
  key_found t h =
      let here : List ℕ = filter (λ z. get_or W z 0 == c) (points (length W)) in
      holds_where_counted HasKey (keys_in W c key) t
      (Each-first_met HasKey (map key here)
      (Each-map HasKey key here
      (Each-weaker (λ z. (z < length W) × ((get_or W z 0 == c) ≡ true)) (λ z. HasKey (key z))
      (λ z l. record { x = z; inside = l.0; lies = eqb-true _ _ l.1; is = refl })
      here
      (Each-passed (λ z. z < length W) (λ z. get_or W z 0 == c) (points (length W)) (Each-points (length W))))))
      h

  once : (t : ℕ) → count_by (λ o. t == o) (keys_in W c key) ≤ 1
  once t = met_once (map key (filter (λ z. get_or W z 0 == c) (points (length W)))) t

  -- how many parts come before that of a point
  pub before_below : (x : ℕ) → x < length W → get_or W x 0 ≡ c → below (keys_in W c key) (key x) < length (keys_in W c key)
  before_below x l e =
      omega (arith, key_counts x l e, below_next (keys_in W c key) (key x), count_by-le-length (λ o. nat_lt o (key x + 1)) (keys_in W c key))

  -- each number below that of the parts is so reached
  pub key_before : (m : ℕ) → m < length (keys_in W c key) → (t : ℕ) × HasKey t × (below (keys_in W c key) t ≡ m)
  key_before m l =
      let b = bounded (keys_in W c key) in
      let r = number_with_below (keys_in W c key) b.0 m once (omega (arith, l, below_all (keys_in W c key) b.0 b.1)) in
      (r.0, key_found r.0 r.1, r.2)

  -- two points of the cell with different keys make two parts
  lower_two : (x y : ℕ) → x < length W → y < length W → get_or W x 0 ≡ c → get_or W y 0 ≡ c → key x < key y → 2 ≤ length (keys_in W c key)
  lower_two x y hx hy ex ey l =
      omega (arith, below-lt (keys_in W c key) (key x) (key y) (key_counts x hx ex) l, before_below y hy ey)

  pub two_parts : (x y : ℕ) → x < length W → y < length W → get_or W x 0 ≡ c → get_or W y 0 ≡ c → (key x ≡ key y → ⊥) → 2 ≤ length (keys_in W c key)
  two_parts x y hx hy ex ey ne = ⊎_elim
      (λ (l : key x < key y). lower_two x y hx hy ex ey l)
      (λ (l : key y ≤ key x). lower_two y x hy hx ey ex (omega (arith, l, ne)))
      (cases_lt (key x) (key y))

  -- and two parts have two points with different keys
  pub two_points : 2 ≤ length (keys_in W c key)
      → (x : ℕ) × (y : ℕ) × (x < length W) × (y < length W) × (get_or W x 0 ≡ c) × (get_or W y 0 ≡ c) × (key x ≡ key y → ⊥)
  two_points h =
      let p = key_before 0 (omega (arith, h)) in
      let q = key_before 1 (omega (arith, h)) in (
        p.1.x,
        q.1.x,
        p.1.inside,
        q.1.inside,
        p.1.lies,
        q.1.lies,
        λ e. omega (arith, p.2, q.2, ap (below (keys_in W c key)) (sym p.1.is ∙ e ∙ q.1.is)),
      )

  -- the number of a point after the step
  abbrev pub new_number : ℕ → ℕ → ℕ
  new_number own k = if own == c then part_number W c (below (keys_in W c key) k) else own

  pub parted_at : (x : ℕ) → x < length W → get_or (parted_by W c key) x 0 ≡ new_number (get_or W x 0) (key x)
  parted_at x l = get_or-map-range_with_len (λ z. new_number (get_or W z 0) (key z)) 0 (length W) x x 0 l (omega arith)

  pub length-parted_by : length (parted_by W c key) ≡ length W
  length-parted_by = length-map-range_with_len (λ z. new_number (get_or W z 0) (key z)) 0 (length W)

  inside_number : (own k : ℕ) → own ≡ c → new_number own k ≡ part_number W c (below (keys_in W c key) k)
  inside_number own k e = ap (λ b. if b then part_number W c (below (keys_in W c key) k) else own) (eq-eqb own c e)

  outside_number : (own k : ℕ) → (own ≡ c → ⊥) → new_number own k ≡ own
  outside_number own k ne = ap (λ b. if b then part_number W c (below (keys_in W c key) k) else own) (ne_eqb own c ne)

  first_number : (before : ℕ) → before ≡ 0 → part_number W c before ≡ c
  first_number before e = ap (λ b. if b then c else cell_count W + (before - 1)) (eq-eqb before 0 e)

  later_number : (before : ℕ) → 0 < before → part_number W c before ≡ cell_count W + (before - 1)
  later_number before l = ap (λ b. if b then c else cell_count W + (before - 1)) (ne_eqb before 0 (λ e. omega (arith, l, e)))

  -- a cell that is left whole keeps its points, as all others do
  pub whole_same : (2 ≤ length (keys_in W c key) → ⊥) → parted_by W c key ≡ W
  whole_same whole = same_number_lists (parted_by W c key) W length-parted_by (λ x l. let low : x < length W = omega (arith, l, length-parted_by) in at x low)
    where
      at : (x : ℕ) → x < length W → get_or (parted_by W c key) x 0 ≡ get_or W x 0
      at x l = parted_at x l ∙ ⊎_elim
          (λ (e : get_or W x 0 ≡ c).
          let none : below (keys_in W c key) (key x) ≡ 0 = omega (arith, before_below x l e, whole) in
          inside_number (get_or W x 0) (key x) e ∙ first_number (below (keys_in W c key) (key x)) none ∙ sym e)
          (λ ne. outside_number (get_or W x 0) (key x) ne)
          (cases_eq (get_or W x 0) c)

  -- where the numbers below m are the cells, and c is one, so are the numbers below the new count
  module _ (m : ℕ) (h : UsesBelow W m) (lc : c < m) where
    count : cell_count W ≡ m
    count = cell_count_used W m h

    pub some_part : 1 ≤ length (keys_in W c key)
    some_part = let p = point_of W c (h.used c lc) in omega (arith, before_below p.0 p.1 p.2)

    number_small : (x : ℕ) → x < length W → new_number (get_or W x 0) (key x) < m + (length (keys_in W c key) - 1)
    number_small x l = ⊎_elim
        (λ (e : get_or W x 0 ≡ c).
        let b = before_below x l e in
        ⊎_elim
        (λ (z : below (keys_in W c key) (key x) < 1). omega
        (arith, inside_number (get_or W x 0) (key x) e, first_number (below (keys_in W c key) (key x)) (omega (arith, z)), lc))
        (λ (z : 1 ≤ below (keys_in W c key) (key x)).
        omega (arith, inside_number (get_or W x 0) (key x) e, later_number (below (keys_in W c key) (key x)) (omega (arith, z)), count, b, z))
        (cases_lt (below (keys_in W c key) (key x)) 1))
        (λ ne. omega (arith, outside_number (get_or W x 0) (key x) ne, h.below x l))
        (cases_eq (get_or W x 0) c)

    -- a point of the part that has so many before it
    part_used : (j : ℕ) → j < length (keys_in W c key) → is_in (parted_by W c key) (part_number W c j) ≡ true
    part_used j l =
        let k = key_before j l in
        let w = k.1 in
        let low : w.x < length (parted_by W c key) = omega (arith, w.inside, length-parted_by) in
        is_in_from (parted_by W c key) w.x (part_number W c j) low
        (parted_at w.x w.inside ∙ inside_number (get_or W w.x 0) (key w.x) w.lies ∙ ap (part_number W c) (ap (below (keys_in W c key)) w.is ∙ k.2))

    other_used : (k : ℕ) → k < m → (k ≡ c → ⊥) → is_in (parted_by W c key) k ≡ true
    other_used k l ne =
        let p = point_of W k (h.used k l) in
        let low : p.0 < length (parted_by W c key) = omega (arith, p.1, length-parted_by) in
        is_in_from (parted_by W c key) p.0 k low
        (parted_at p.0 p.1 ∙ outside_number (get_or W p.0 0) (key p.0) (λ e. ne (sym p.2 ∙ e)) ∙ p.2)

    number_used : (k : ℕ) → k < m + (length (keys_in W c key) - 1) → is_in (parted_by W c key) k ≡ true
    number_used k l = ⊎_elim
        (λ (low : k < m). ⊎_elim
        (λ (e : k ≡ c). subst (λ n. is_in (parted_by W c key) n ≡ true) (first_number 0 refl ∙ sym e) (part_used 0 (omega (arith, some_part))))
        (λ ne. other_used k low ne)
        (cases_eq k c))
        (λ (high : m ≤ k).
        let j : ℕ = k - m + 1 in
        let e : part_number W c j ≡ k = omega (arith, later_number j (omega arith), count, high) in
        subst (λ n. is_in (parted_by W c key) n ≡ true) e (part_used j (omega (arith, l, high))))
        (cases_lt k m)

    pub UsesBelow-parted_by : UsesBelow (parted_by W c key) (m + (length (keys_in W c key) - 1))
    UsesBelow-parted_by = record {
      below = λ x l.
          let low : x < length W = omega (arith, l, length-parted_by) in
          subst (λ n. n < m + (length (keys_in W c key) - 1)) (sym (parted_at x low)) (number_small x low);
      used = number_used;
    }

-- the keys of the points of the cell alone matter
module _ (W : List ℕ) (c : ℕ) (key other : ℕ → ℕ) (h : (x : ℕ) → x < length W → get_or W x 0 ≡ c → key x ≡ other x) where
  keys_agree : (xs : List ℕ) → AllByRecursion (λ x. x < length W) xs
      → map key (filter (λ z. get_or W z 0 == c) xs) ≡ map other (filter (λ z. get_or W z 0 == c) xs)
  keys_agree [] a = refl
  keys_agree (x ∷ xs) a = by (get_or W x 0 == c) refl (keys_agree xs a.1)
    where
      by : (b : Bool) → (get_or W x 0 == c) ≡ b → map key (filter (λ z. get_or W z 0 == c) xs) ≡ map other (filter (λ z. get_or W z 0 == c) xs)
          → map key (filter (λ z. get_or W z 0 == c) (x ∷ xs)) ≡ map other (filter (λ z. get_or W z 0 == c) (x ∷ xs))
      by true e again =
          ap (λ b. map key (cond b (x ∷ filter (λ z. get_or W z 0 == c) xs) (filter (λ z. get_or W z 0 == c) xs))) e
          ∙ (λ i. h x a.0 (eqb-true _ _ e) i ∷ again i)
          ∙ sym (ap (λ b. map other (cond b (x ∷ filter (λ z. get_or W z 0 == c) xs) (filter (λ z. get_or W z 0 == c) xs))) e)
      by false e again =
          ap (λ b. map key (cond b (x ∷ filter (λ z. get_or W z 0 == c) xs) (filter (λ z. get_or W z 0 == c) xs))) e
          ∙ again
          ∙ sym (ap (λ b. map other (cond b (x ∷ filter (λ z. get_or W z 0 == c) xs) (filter (λ z. get_or W z 0 == c) xs))) e)

  pub keys_in_agree : keys_in W c key ≡ keys_in W c other
  keys_in_agree = ap first_met (keys_agree (points (length W)) (Each-points (length W)))

  numbers_agree : (x : ℕ) → x < length W → new_number W c key (get_or W x 0) (key x) ≡ new_number W c other (get_or W x 0) (other x)
  numbers_agree x l = ⊎_elim
      (λ (e : get_or W x 0 ≡ c). λ i. new_number_of (keys_in_agree i) (get_or W x 0) (h x l e i))
      (λ ne.
      ap (λ b. if b then part_number W c (below (keys_in W c key) (key x)) else get_or W x 0) (ne_eqb (get_or W x 0) c ne)
      ∙ sym (ap (λ b. if b then part_number W c (below (keys_in W c other) (other x)) else get_or W x 0) (ne_eqb (get_or W x 0) c ne)))
      (cases_eq (get_or W x 0) c)
    where
      new_number_of : List ℕ → ℕ → ℕ → ℕ
      new_number_of keys own k = if own == c then part_number W c (below keys k) else own

  pub parted_by_agree : parted_by W c key ≡ parted_by W c other
  parted_by_agree =
      map_agree (λ x. new_number W c key (get_or W x 0) (key x)) (λ x. new_number W c other (get_or W x 0) (other x)) (points (length W))
      (Each-weaker (λ x. x < length W) (λ x. new_number W c key (get_or W x 0) (key x) ≡ new_number W c other (get_or W x 0) (other x)) numbers_agree
      (points (length W)) (Each-points (length W)))
