-- A key on one class: its first part keeps the number of the class, and the next parts get the rank r, r + 1, ..
use Rattle.std.proofs.Common.{◌≡◌, ◌↔◌, ◌==◌, ◌&&◌, nat_lt, ℕ, suc, zero, ◌+◌, ◌-◌, ◌*◌, ◌/◌, ◌%◌, ◌<◌, ◌≤◌, Bool, true, false, length, map, filter, count_by, ⊎_elim, sym, ap, subst, ◌∙◌, arith, if◌then◌else◌}
use Rattle.std.proofs.lemmas.List.Sums.{count_by-le-length}
use Rattle.std.proofs.lemmas.Bool.{cases_eq, cases_lt, cases_Bool, eq-eqb, eqb-true, ne_eqb, and_parts, lt-ltb, le-ltb, ltb-true}
use Rattle.pair_colours.specs.Colouring.{PairColouring, IsColouring, colour_at, points}
use Rattle.pair_colours.specs.Naming.{walk, rank_of}
use Rattle.pair_colours.proofs.Counts.{unit_of}
use Rattle.pair_colours.proofs.ListLemmas.{map_agree, Each-points, Each-weaker}
use Rattle.pair_colours.proofs.Names.{InSquare, Each-walk}
use Rattle.pair_colours.proofs.Places.{row_below, column_below}
use Rattle.trace_text.specs.Split.{has_smaller_key, later_keys, parted_by, key_in_class}
use Rattle.trace_text.specs.Parts.{keys_in, part_number, class_parted_by}
use Rattle.pair_colours.proofs.Below.{bounded, below, below_none, below_next, below_all, below-lt, below-le, met_once}
use Rattle.trace_text.proofs.Parting.{any_holds, HasKey, key_counts, key_found, key_of_place, place_below_keys, moves, smaller_moves, smaller_found}

-- the pairs of class k
abbrev pub in_this : PairColouring → ℕ → ℕ × ℕ → Bool
in_this P k p = colour_at P p.0 p.1 == k

module _ (P : PairColouring) (k : ℕ) (key : ℕ → ℕ → ℕ) where
  here : (x y : ℕ) → colour_at P x y ≡ k → key_in_class P k key x y ≡ key x y
  here x y e = ap (λ b. if b then key x y else 0) (eq-eqb _ _ e)

  -- a pair that moves is in the class, and has a key that is not the least
  moved_inside : (x y : ℕ) → has_smaller_key P (key_in_class P k key) x y ≡ true → colour_at P x y ≡ k
  moved_inside x y h = ⊎_elim
      (λ i. i)
      (λ out. absurd (omega (arith, smaller_found P (key_in_class P k key) x y h, ap (λ b. if b then key x y else 0) (ne_eqb _ _ out))))
      (cases_eq (colour_at P x y) k)

  moved_later : (x y : ℕ) → has_smaller_key P (key_in_class P k key) x y ≡ true → 0 < below (keys_in P k key) (key x y)
  moved_later x y h =
      let i = moved_inside x y h in
      let s = any_holds (λ p. (colour_at P p.0 p.1 == colour_at P x y) && nat_lt (key_in_class P k key p.0 p.1) (key_in_class P k key x y)) (InSquare P.size) (walk P.size) (Each-walk P.size) h in
      let q = s.0 in
      let both = and_parts (colour_at P q.0 q.1 == colour_at P x y) (nat_lt (key_in_class P k key q.0 q.1) (key_in_class P k key x y)) s.2 in
      let c : colour_at P q.0 q.1 ≡ k = eqb-true _ _ both.0 ∙ i in
      let l : key q.0 q.1 < key x y = omega (arith, ltb-true _ _ both.1, here q.0 q.1 c, here x y i) in
      omega (arith, below-lt (keys_in P k key) (key q.0 q.1) (key x y) (key_counts P key (in_this P k) q.0 q.1 s.1.0 s.1.1 (eq-eqb _ _ c)) l)

  -- t is the least key of the class
  record IsLeast (t : ℕ) : Type 0 where
    pub some : HasKey P key (in_this P k) t
    pub least : below (keys_in P k key) t ≡ 0

  least_moves : (t : ℕ) → IsLeast t → (x y : ℕ) → x < P.size → y < P.size → colour_at P x y ≡ k → t < key x y → has_smaller_key P (key_in_class P k key) x y ≡ true
  least_moves t m x y hx hy i l =
      let w = m.some in
      let c : colour_at P w.x w.y ≡ k = eqb-true _ _ w.passes in
      smaller_moves P (key_in_class P k key) w.x w.y x y w.row w.column hx hy (c ∙ sym i) (omega (arith, here w.x w.y c, here x y i, w.is, l))

  -- the later keys are all but the least
  later_count : (t : ℕ) → IsLeast t → (c : ℕ) → (c ≡ t → ⊥) → count_by (λ y. c == y) (later_keys P (key_in_class P k key)) ≡ count_by (λ y. c == y) (keys_in P k key)
  later_count t m c ne =
      let one = met_once (map (λ p. key_in_class P k key p.0 p.1) (filter (λ p. has_smaller_key P (key_in_class P k key) p.0 p.1) (walk P.size))) c in
      let two = met_once (map (λ p. key p.0 p.1) (filter (in_this P k) (walk P.size))) c in
      ⊎_elim
      (λ h. ⊎_elim (λ g. omega (arith, one, two, h, g)) (λ g. absurd (omega (arith, g, there h))) (cases_lt 0 (count_by (λ y. c == y) (keys_in P k key))))
      (λ h. ⊎_elim (λ g. absurd (omega (arith, h, back g))) (λ g. omega (arith, h, g)) (cases_lt 0 (count_by (λ y. c == y) (keys_in P k key))))
      (cases_lt 0 (count_by (λ y. c == y) (later_keys P (key_in_class P k key))))
    where
      there : 0 < count_by (λ y. c == y) (later_keys P (key_in_class P k key)) → 0 < count_by (λ y. c == y) (keys_in P k key)
      there h =
          let w = key_found P (key_in_class P k key) (moves P (key_in_class P k key)) c h in
          let i = moved_inside w.x w.y w.passes in
          subst (λ z. 0 < count_by (λ y. z == y) (keys_in P k key)) (sym (here w.x w.y i) ∙ w.is) (key_counts P key (in_this P k) w.x w.y w.row w.column (eq-eqb _ _ i))

      back : 0 < count_by (λ y. c == y) (keys_in P k key) → 0 < count_by (λ y. c == y) (later_keys P (key_in_class P k key))
      back g =
          let w = key_found P key (in_this P k) c g in
          let i : colour_at P w.x w.y ≡ k = eqb-true _ _ w.passes in
          let l : t < key w.x w.y = ⊎_elim
          (λ a. a)
          (λ a. absurd (omega (arith, below-lt (keys_in P k key) c t g (omega (arith, a, w.is, ne)), m.least)))
          (cases_lt t (key w.x w.y)) in
          subst (λ z. 0 < count_by (λ y. z == y) (later_keys P (key_in_class P k key))) (here w.x w.y i ∙ w.is)
          (key_counts P (key_in_class P k key) (moves P (key_in_class P k key)) w.x w.y w.row w.column (least_moves t m w.x w.y w.row w.column i l))

  least_not_later : (t : ℕ) → IsLeast t → count_by (λ y. t == y) (later_keys P (key_in_class P k key)) ≡ 0
  least_not_later t m = ⊎_elim
      (λ h.
      let w = key_found P (key_in_class P k key) (moves P (key_in_class P k key)) t h in
      let i = moved_inside w.x w.y w.passes in
      let e : key w.x w.y ≡ t = sym (here w.x w.y i) ∙ w.is in
      absurd (omega (arith, moved_later w.x w.y w.passes, ap (below (keys_in P k key)) e, m.least)))
      (λ h. omega (arith, h))
      (cases_lt 0 (count_by (λ y. t == y) (later_keys P (key_in_class P k key))))

  later_below : (t : ℕ) → IsLeast t → (n : ℕ) → below (later_keys P (key_in_class P k key)) n + unit_of (nat_lt t n) ≡ below (keys_in P k key) n
  later_below t m zero = omega (arith, below_none (later_keys P (key_in_class P k key)), below_none (keys_in P k key), ap unit_of (le-ltb t 0 (omega arith)))
  later_below t m (suc n) =
      let again = later_below t m n in
      let e : suc n ≡ n + 1 = omega arith in
      let a : below (later_keys P (key_in_class P k key)) (suc n) ≡ below (later_keys P (key_in_class P k key)) n + count_by (λ y. n == y) (later_keys P (key_in_class P k key)) =
      ap (below (later_keys P (key_in_class P k key))) e ∙ below_next (later_keys P (key_in_class P k key)) n in
      let b : below (keys_in P k key) (suc n) ≡ below (keys_in P k key) n + count_by (λ y. n == y) (keys_in P k key) =
      ap (below (keys_in P k key)) e ∙ below_next (keys_in P k key) n in
      ⊎_elim
      (λ s.
      let w = m.some in
      let counts = subst (λ z. 0 < count_by (λ y. z == y) (keys_in P k key)) (w.is ∙ sym s) (key_counts P key (in_this P k) w.x w.y w.row w.column w.passes) in
      let none : count_by (λ y. n == y) (later_keys P (key_in_class P k key)) ≡ 0 = subst (λ z. count_by (λ y. z == y) (later_keys P (key_in_class P k key)) ≡ 0) (sym s) (least_not_later t m) in
      omega (
        arith,
        again,
        a,
        b,
        counts,
        none,
        met_once (map (λ p. key p.0 p.1) (filter (in_this P k) (walk P.size))) n,
        ap unit_of (le-ltb t n (omega (arith, s))),
        ap unit_of (lt-ltb t (suc n) (omega (arith, s))),
      ))
      (λ ne. ⊎_elim
      (λ l. omega (arith, again, a, b, later_count t m n ne, ap unit_of (lt-ltb t n l), ap unit_of (lt-ltb t (suc n) (omega (arith, l)))))
      (λ l. omega (arith, again, a, b, later_count t m n ne, ap unit_of (le-ltb t n l), ap unit_of (le-ltb t (suc n) (omega (arith, l, ne)))))
      (cases_lt t n))
      (cases_eq n t)

  least_of : 1 ≤ length (keys_in P k key) → (t : ℕ) × IsLeast t
  least_of some = let r = key_of_place P key (in_this P k) 0 some in (r.0, record { some = r.1; least = r.2 })

  -- the numbers that a key on one class gives
  same_number : (x y : ℕ) → x < P.size → y < P.size
      → (if has_smaller_key P (key_in_class P k key) x y then rank_of P + below (later_keys P (key_in_class P k key)) (key_in_class P k key x y) else colour_at P x y)
      ≡ (if colour_at P x y == k then part_number P k (below (keys_in P k key) (key x y)) else colour_at P x y)
  same_number x y hx hy = ⊎_elim
      (λ i.
      let counts = key_counts P key (in_this P k) x y hx hy (eq-eqb _ _ i) in
      let t = least_of (omega (arith, counts, below-lt (keys_in P k key) (key x y) (key x y + 1) counts (omega arith), count_le)) in
      ⊎_elim
      (λ l.
      let h = least_moves t.0 t.1 x y hx hy i l in
      let m = moved_later x y h in
      let b = later_below t.0 t.1 (key x y) in
      let n : below (later_keys P (key_in_class P k key)) (key_in_class P k key x y) ≡ below (later_keys P (key_in_class P k key)) (key x y) = ap (below (later_keys P (key_in_class P k key))) (here x y i) in
      let p : part_number P k (below (keys_in P k key) (key x y)) ≡ rank_of P + (below (keys_in P k key) (key x y) - 1) =
      ap (λ c. if c then k else rank_of P + (below (keys_in P k key) (key x y) - 1)) (ne_eqb _ 0 (λ z. omega (arith, z, m))) in
      ap (λ c. if c then rank_of P + below (later_keys P (key_in_class P k key)) (key_in_class P k key x y) else colour_at P x y) h
      ∙ omega (arith, n, p, b, ap unit_of (lt-ltb t.0 (key x y) l))
      ∙ sym (ap (λ c. if c then part_number P k (below (keys_in P k key) (key x y)) else colour_at P x y) (eq-eqb _ _ i)))
      (λ l.
      let z : below (keys_in P k key) (key x y) ≡ 0 = omega (arith, below-le (keys_in P k key) (key x y) t.0 l, t.1.least) in
      let h : has_smaller_key P (key_in_class P k key) x y ≡ false = ⊎_elim (λ s. absurd (omega (arith, z, moved_later x y s))) (λ s. s) (cases_Bool (has_smaller_key P (key_in_class P k key) x y)) in
      ap (λ c. if c then rank_of P + below (later_keys P (key_in_class P k key)) (key_in_class P k key x y) else colour_at P x y) h
      ∙ i
      ∙ sym (ap (λ c. if c then part_number P k (below (keys_in P k key) (key x y)) else colour_at P x y) (eq-eqb _ _ i)
      ∙ ap (λ c. if c then k else rank_of P + (below (keys_in P k key) (key x y) - 1)) (eq-eqb _ 0 z)))
      (cases_lt t.0 (key x y)))
      (λ out.
      let h : has_smaller_key P (key_in_class P k key) x y ≡ false = ⊎_elim (λ s. absurd (out (moved_inside x y s))) (λ s. s) (cases_Bool (has_smaller_key P (key_in_class P k key) x y)) in
      ap (λ c. if c then rank_of P + below (later_keys P (key_in_class P k key)) (key_in_class P k key x y) else colour_at P x y) h
      ∙ sym (ap (λ c. if c then part_number P k (below (keys_in P k key) (key x y)) else colour_at P x y) (ne_eqb _ _ out)))
      (cases_eq (colour_at P x y) k)
    where
      count_le : below (keys_in P k key) (key x y + 1) ≤ length (keys_in P k key)
      count_le = count_by-le-length (λ o. nat_lt o (key x y + 1)) (keys_in P k key)

  -- so the colourings are one
  pub parts_one_class : IsColouring P → parted_by P (key_in_class P k key) ≡ class_parted_by P k key
  parts_one_class a = λ i. record {
    size = P.size;
    colours = map_agree
        (λ p. if has_smaller_key P (key_in_class P k key) (p / P.size) (p % P.size) then rank_of P + below (later_keys P (key_in_class P k key)) (key_in_class P k key (p / P.size) (p % P.size)) else colour_at P (p / P.size) (p % P.size))
        (λ p. if colour_at P (p / P.size) (p % P.size) == k then part_number P k (below (keys_in P k key) (key (p / P.size) (p % P.size))) else colour_at P (p / P.size) (p % P.size))
        (points (P.size * P.size))
        (Each-weaker (λ p. p < P.size * P.size) _
        (λ p l. same_number (p / P.size) (p % P.size) (row_below P.size p a.has_points l) (column_below P.size p a.has_points))
        (points (P.size * P.size)) (Each-points (P.size * P.size))) i;
  }

  -- and one part fewer is later than there are parts
  pub later_parts : 1 ≤ length (keys_in P k key) → length (later_keys P (key_in_class P k key)) + 1 ≡ length (keys_in P k key)
  later_parts some =
      let t = least_of some in
      let a = bounded (keys_in P k key) in
      let b = bounded (later_keys P (key_in_class P k key)) in
      let n : ℕ = a.0 + b.0 + t.0 + 1 in
      omega (
        arith,
        later_below t.0 t.1 n,
        ap unit_of (lt-ltb t.0 n (omega arith)),
        below_all (keys_in P k key) n (Each-weaker (λ z. z < a.0) (λ z. z < n) (λ z l. omega (arith, l)) (keys_in P k key) a.1),
        below_all (later_keys P (key_in_class P k key)) n (Each-weaker (λ z. z < b.0) (λ z. z < n) (λ z l. omega (arith, l)) (later_keys P (key_in_class P k key)) b.1),
      )

  -- so there is a later key exactly where there are two keys
  pub parts_two_keys : (1 ≤ length (later_keys P (key_in_class P k key))) ↔ (2 ≤ length (keys_in P k key))
  parts_two_keys = (λ l. omega (arith, l, later_parts (some_key l)), λ l. omega (arith, l, later_parts (omega (arith, l))))
    where
      some_key : 1 ≤ length (later_keys P (key_in_class P k key)) → 1 ≤ length (keys_in P k key)
      some_key l =
          let w = (key_of_place P (key_in_class P k key) (moves P (key_in_class P k key)) 0 l).1 in
          omega (arith, place_below_keys P key (in_this P k) w.x w.y w.row w.column (eq-eqb _ _ (moved_inside w.x w.y w.passes)))
