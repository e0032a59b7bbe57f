-- Segments through an exchange of two places, and through a move to the class behind.
use Rattle.std.proofs.Common.{◌≡◌, ◌≢◌, ℕ, ◌+◌, ◌-◌, ◌^◌, ◌<◌, ◌≤◌, List, length, get_or, set, replicate, ⊎_elim, refl, sym, ap, subst, ◌∙◌, arith}
use Rattle.std.specs.List.{range_with_len}
use Rattle.std.proofs.lemmas.Bool.{cases_eq}
use Rattle.std.proofs.lemmas.List.{length-set, get_or-set_same, get_or-set_other, length-replicate, get_or-replicate}
use Rattle.std.proofs.lemmas.List.FromFn.{length-range_with_len, get_or-range_with_len}
use Rattle.wl_round.proofs.OneWrite.{one_write}
use Rattle.split_cells.specs.declared.partings.Parting.{Parting}
use Rattle.split_cells.specs.Grids.{HasMember}
use Rattle.split_cells.specs.Segments.{IsSegmented, IsParting, IsMembers, class_at, first_of, stands_at}

-- what holds of an entry after two writes
pub two_writes : (P : ℕ → Type 0) (xs : List ℕ) (i a j b k : ℕ) → i < length xs → j < length xs → (k ≡ j → P b) → (k ≢ j → k ≡ i → P a) → (k ≢ j → k ≢ i → P (get_or xs k 0))
    → P (get_or (set (set xs i a) j b) k 0)
two_writes P xs i a j b k li lj second first other =
    one_write P (set xs i a) j b k (omega (arith, lj, length-set xs i a)) second (λ ne. one_write P xs i a k li (first ne) (other ne))

module _ (class order place start len : List ℕ) (rank : ℕ) (h : IsSegmented class order place start len rank) (p k : ℕ) (inside : p < length order) (is : get_or class p 0 ≡ k) where
  abbrev from : ℕ
  from = get_or place p 0

  abbrev first : ℕ
  first = get_or start k 0

  abbrev size : ℕ
  size = get_or len k 0

  pub named-k : k < rank
  named-k = omega (arith, is, h.class_in p inside)

  pub first_le : first ≤ from
  first_le = omega (arith, h.low p inside, ap (λ c. get_or start c 0) is)

  pub from_lt : from < first + size
  from_lt = omega (arith, h.high p inside, ap (λ c. get_or start c 0) is, ap (λ c. get_or len c 0) is)

  pub last_in : first + size ≤ length order
  last_in = h.ends k named-k

  pub from_in : from < length order
  from_in = h.place_in p inside

  at_from : get_or order from 0 ≡ p
  at_from = h.order_at p inside

  -- p changes places with the last of its class
  module _ (last : ℕ) (end : last + 1 ≡ first + size) where
    abbrev other : ℕ
    other = get_or order last 0

    last_lt : last < length order
    last_lt = omega (arith, end, last_in)

    other_in : other < length order
    other_in = h.order_in last last_lt

    other_class : get_or class other 0 ≡ k
    other_class = h.members k named-k last (omega (arith, end, first_le, from_lt)) (omega (arith, end))

    place_other : get_or place other 0 ≡ last
    place_other = h.place_at last last_lt

    order_lt : (a : ℕ) → a < length order → a < length (set order from other)
    order_lt a l = omega (arith, l, length-set order from other)

    abbrev orders : List ℕ
    orders = set (set order from other) last p

    abbrev places : List ℕ
    places = set (set place other from) p last

    length-orders : length orders ≡ length order
    length-orders = length-set (set order from other) last p ∙ length-set order from other

    length-places : length places ≡ length order
    length-places = length-set (set place other from) p last ∙ length-set place other from ∙ h.places

    -- what holds at a place, and of a number
    at_order : (P : ℕ → Type 0) (a : ℕ) → (a ≡ last → P p) → (a ≢ last → a ≡ from → P other) → (a ≢ last → a ≢ from → P (get_or order a 0)) → P (get_or orders a 0)
    at_order P a = two_writes P order from other last p a from_in last_lt

    at_place : (P : ℕ → Type 0) (q : ℕ) → (q ≡ p → P last) → (q ≢ p → q ≡ other → P from) → (q ≢ p → q ≢ other → P (get_or place q 0)) → P (get_or places q 0)
    at_place P q = two_writes P place other from p last q (omega (arith, other_in, h.places)) (omega (arith, inside, h.places))

    down : (a : ℕ) → a < length orders → a < length order
    down a l = omega (arith, l, length-orders)

    pub put_last : IsSegmented class orders places start len rank
    put_last = record {
      small = omega (arith, h.small, length-orders);
      classes = h.classes ∙ sym length-orders;
      places = length-places ∙ sym length-orders;
      starts = omega (arith, h.starts, length-orders);
      lens = omega (arith, h.lens, length-orders);
      ranks = omega (arith, h.ranks, length-orders);
      place_in = λ q l. at_place (λ a. a < length orders) q
          (λ _. omega (arith, last_lt, length-orders))
          (λ _ _. omega (arith, from_in, length-orders))
          (λ _ _. omega (arith, h.place_in q (down q l), length-orders));
      order_at = λ q l. at_place (λ a. get_or orders a 0 ≡ q) q
          (λ e. at_order (λ z. z ≡ q) last (λ _. sym e) (λ ne. absurd (ne refl)) (λ ne. absurd (ne refl)))
          (λ ne e. at_order (λ z. z ≡ q) from (λ f. absurd (ne (e ∙ ap (λ a. get_or order a 0) (sym f) ∙ at_from))) (λ _ _. sym e) (λ _ nf. absurd (nf refl)))
          (λ ne nf. let o = h.order_at q (down q l) in
          at_order (λ z. z ≡ q) (get_or place q 0)
          (λ f. absurd (nf (sym o ∙ ap (λ a. get_or order a 0) f)))
          (λ _ f. absurd (ne (sym o ∙ ap (λ a. get_or order a 0) f ∙ at_from)))
          (λ _ _. o));
      order_in = λ a l. at_order (λ z. z < length orders) a
          (λ _. omega (arith, inside, length-orders))
          (λ _ _. omega (arith, other_in, length-orders))
          (λ _ _. omega (arith, h.order_in a (down a l), length-orders));
      place_at = λ a l. at_order (λ z. get_or places z 0 ≡ a) a
          (λ e. at_place (λ z. z ≡ a) p (λ _. sym e) (λ ne. absurd (ne refl)) (λ ne. absurd (ne refl)))
          (λ ne e. at_place (λ z. z ≡ a) other (λ f. absurd (ne (e ∙ ap (λ z. get_or place z 0) (sym f) ∙ place_other))) (λ _ _. sym e) (λ _ nf. absurd (nf refl)))
          (λ ne nf. let o = h.place_at a (down a l) in
          at_place (λ z. z ≡ a) (get_or order a 0)
          (λ f. absurd (nf (sym o ∙ ap (λ z. get_or place z 0) f)))
          (λ _ f. absurd (ne (sym o ∙ ap (λ z. get_or place z 0) f ∙ place_other)))
          (λ _ _. o));
      class_in = λ q l. h.class_in q (down q l);
      low = λ q l. at_place (λ a. get_or start (get_or class q 0) 0 ≤ a) q
          (λ e. let f = ap (λ z. get_or start (get_or class z 0) 0) e in let g = ap (λ c. get_or start c 0) is in omega (arith, first_le, from_lt, end, f, g))
          (λ _ e. let f = ap (λ z. get_or start (get_or class z 0) 0) e in let g = ap (λ c. get_or start c 0) other_class in omega (arith, first_le, f, g))
          (λ _ _. h.low q (down q l));
      high = λ q l. at_place (λ a. a < get_or start (get_or class q 0) 0 + get_or len (get_or class q 0) 0) q
          (λ e.
          let f = ap (λ z. get_or start (get_or class z 0) 0) e in
          let g = ap (λ c. get_or start c 0) is in
          let f' = ap (λ z. get_or len (get_or class z 0) 0) e in
          let g' = ap (λ c. get_or len c 0) is in
          omega (arith, end, f, g, f', g'))
          (λ _ e.
          let f = ap (λ z. get_or start (get_or class z 0) 0) e in
          let g = ap (λ c. get_or start c 0) other_class in
          let f' = ap (λ z. get_or len (get_or class z 0) 0) e in
          let g' = ap (λ c. get_or len c 0) other_class in
          omega (arith, from_lt, f, g, f', g'))
          (λ _ _. h.high q (down q l));
      ends = λ c l. omega (arith, h.ends c l, length-orders);
      members = λ c l a lo hi.
          let old = h.members c l a lo hi in
          at_order (λ z. get_or class z 0 ≡ c) a
          (λ e. is ∙ sym other_class ∙ ap (λ z. get_or class (get_or order z 0) 0) (sym e) ∙ old)
          (λ _ e. other_class ∙ sym is ∙ ap (λ z. get_or class z 0) (sym at_from) ∙ ap (λ z. get_or class (get_or order z 0) 0) (sym e) ∙ old)
          (λ _ _. old);
    }

    pub last_place : get_or places p 0 + 1 ≡ first + size
    last_place = at_place (λ a. a + 1 ≡ first + size) p (λ _. end) (λ ne. absurd (ne refl)) (λ ne. absurd (ne refl))

  -- p, the last of its class, moves to the class right behind
  module _ (new before fewer more : ℕ) (ne : k ≢ new) (named : new < rank) (behind : get_or start new 0 ≡ first + size) (last : from + 1 ≡ first + size)
      (b : before + 1 ≡ get_or start new 0) (f : fewer + 1 ≡ size) (m : more ≡ get_or len new 0 + 1) where
    abbrev classes : List ℕ
    classes = set class p new

    abbrev starts : List ℕ
    starts = set start new before

    abbrev lens : List ℕ
    lens = set (set len k fewer) new more

    new_start : new < length start
    new_start = omega (arith, named, h.ranks, h.starts)

    pub start_new : get_or starts new 0 ≡ before
    start_new = get_or-set_same start new before 0 new_start

    pub start_other : (c : ℕ) → c ≢ new → get_or starts c 0 ≡ get_or start c 0
    start_other c n = get_or-set_other start new c before 0 n

    at_len : (P : ℕ → Type 0) (c : ℕ) → (c ≡ new → P more) → (c ≢ new → c ≡ k → P fewer) → (c ≢ new → c ≢ k → P (get_or len c 0)) → P (get_or lens c 0)
    at_len P c = two_writes P len k fewer new more c (omega (arith, named-k, h.ranks, h.lens)) (omega (arith, named, h.ranks, h.lens))

    pub len_new : get_or lens new 0 ≡ more
    len_new = at_len (λ z. z ≡ more) new (λ _. refl) (λ n. absurd (n refl)) (λ n. absurd (n refl))

    pub len_k : get_or lens k 0 ≡ fewer
    len_k = at_len (λ z. z ≡ fewer) k (λ e. absurd (ne e)) (λ _ _. refl) (λ _ n. absurd (n refl))

    pub len_other : (c : ℕ) → c ≢ new → c ≢ k → get_or lens c 0 ≡ get_or len c 0
    len_other c n o = at_len (λ z. z ≡ get_or len c 0) c (λ e. absurd (n e)) (λ _ e. absurd (o e)) (λ _ _. refl)

    class_p : get_or classes p 0 ≡ new
    class_p = get_or-set_same class p new 0 (omega (arith, inside, h.classes))

    class_other : (q : ℕ) → q ≢ p → get_or classes q 0 ≡ get_or class q 0
    class_other q n = get_or-set_other class p q new 0 n

    -- where class c begins and ends
    starts_at : (c : ℕ) → get_or starts c 0 ≤ get_or start c 0
    starts_at c = ⊎_elim (λ e. omega (arith, start_new, b, ap (λ z. get_or starts z 0) e, ap (λ z. get_or start z 0) e)) (λ n. omega (arith, start_other c n)) (cases_eq c new)

    end_at : (c : ℕ) → c ≢ k → get_or starts c 0 + get_or lens c 0 ≡ get_or start c 0 + get_or len c 0
    end_at c o =
        ⊎_elim
        (λ e. omega (arith, start_new, len_new, b, m, ap (λ z. get_or starts z 0) e, ap (λ z. get_or start z 0) e, ap (λ z. get_or lens z 0) e, ap (λ z. get_or len z 0) e))
        (λ n. omega (arith, start_other c n, len_other c n o))
        (cases_eq c new)

    end_k : get_or starts k 0 + get_or lens k 0 + 1 ≡ first + size
    end_k = omega (arith, start_other k ne, len_k, f)

    apart : (q : ℕ) → q < length order → q ≢ p → get_or place q 0 ≢ from
    apart q l n e = n (sym (h.order_at q l) ∙ ap (λ a. get_or order a 0) e ∙ at_from)

    apart_place : (a : ℕ) → a < length order → a ≢ from → get_or order a 0 ≢ p
    apart_place a l n e = n (sym (h.place_at a l) ∙ ap (λ q. get_or place q 0) e)

    pub take_out : IsSegmented classes order place starts lens rank
    take_out = record {
      small = h.small;
      classes = length-set class p new ∙ h.classes;
      places = h.places;
      starts = length-set start new before ∙ h.starts;
      lens = length-set (set len k fewer) new more ∙ length-set len k fewer ∙ h.lens;
      ranks = h.ranks;
      place_in = h.place_in;
      order_at = h.order_at;
      order_in = h.order_in;
      place_at = h.place_at;
      class_in = λ q l. one_write (λ c. c < rank) class p new q (omega (arith, inside, h.classes)) (λ _. named) (λ _. h.class_in q l);
      low = λ q l. one_write (λ c. get_or starts c 0 ≤ get_or place q 0) class p new q (omega (arith, inside, h.classes))
          (λ e. omega (arith, start_new, b, behind, last, ap (λ z. get_or place z 0) e))
          (λ n. omega (arith, starts_at (get_or class q 0), h.low q l));
      high = λ q l. one_write (λ c. get_or place q 0 < get_or starts c 0 + get_or lens c 0) class p new q (omega (arith, inside, h.classes))
          (λ e. omega (arith, start_new, len_new, b, m, behind, last, ap (λ z. get_or place z 0) e))
          (λ n. ⊎_elim
          (λ e.
          let hi = h.high q l in
          let away : get_or place q 0 ≢ from = apart q l n in
          let s = ap (λ z. get_or start z 0) e in
          let t = ap (λ z. get_or len z 0) e in
          let s' = ap (λ z. get_or starts z 0) e in
          let t' = ap (λ z. get_or lens z 0) e in
          omega (arith, hi, end_k, away, last, s, t, s', t'))
          (λ o. omega (arith, h.high q l, end_at (get_or class q 0) o))
          (cases_eq (get_or class q 0) k));
      ends = λ c l. ⊎_elim
          (λ e. omega (arith, end_k, last_in, ap (λ z. get_or starts z 0) e, ap (λ z. get_or lens z 0) e))
          (λ o. omega (arith, end_at c o, h.ends c l))
          (cases_eq c k);
      members = λ c l a lo hi. at c l a lo hi;
    }
      where
        at : (c : ℕ) → c < rank → (a : ℕ) → get_or starts c 0 ≤ a → a < get_or starts c 0 + get_or lens c 0 → get_or classes (get_or order a 0) 0 ≡ c
        at c l a lo hi = ⊎_elim is_new is_old (cases_eq c new)
          where
            stays : (d : ℕ) → d < rank → get_or start d 0 ≤ a → a < get_or start d 0 + get_or len d 0 → get_or order a 0 ≢ p → get_or classes (get_or order a 0) 0 ≡ d
            stays d ld x y n = class_other (get_or order a 0) n ∙ h.members d ld a x y

            is_new : c ≡ new → get_or classes (get_or order a 0) 0 ≡ c
            is_new e =
                let s = ap (λ z. get_or starts z 0) e in
                let t = ap (λ z. get_or lens z 0) e in
                ⊎_elim
                (λ here. ap (λ z. get_or classes (get_or order z 0) 0) here ∙ ap (λ z. get_or classes z 0) at_from ∙ class_p ∙ sym e)
                (λ away.
                let x : get_or start new 0 ≤ a = omega (arith, lo, s, start_new, b, behind, last, away) in
                let y : a < get_or start new 0 + get_or len new 0 = omega (arith, hi, s, t, start_new, len_new, b, m) in
                let old = h.members new named a x y in
                stays new named x y (λ z. ne (sym is ∙ ap (λ w. get_or class w 0) (sym z) ∙ old)) ∙ sym e)
                (cases_eq a from)

            is_old : c ≢ new → get_or classes (get_or order a 0) 0 ≡ c
            is_old n = ⊎_elim
                (λ e.
                let s = ap (λ z. get_or starts z 0) e in
                let t = ap (λ z. get_or lens z 0) e in
                let s' = start_other k ne in
                let x : get_or start k 0 ≤ a = omega (arith, lo, s, s') in
                let y : a < get_or start k 0 + get_or len k 0 = omega (arith, hi, s, t, end_k) in
                let away : a ≢ from = λ w. omega (arith, w, hi, s, t, end_k, last) in
                stays k named-k x y (apart_place a (omega (arith, y, last_in)) away) ∙ sym e)
                (λ o.
                let x : get_or start c 0 ≤ a = omega (arith, lo, start_other c n) in
                let y : a < get_or start c 0 + get_or len c 0 = omega (arith, hi, end_at c o) in
                let old = h.members c l a x y in
                stays c l x y (λ z. o (sym old ∙ ap (λ w. get_or class w 0) z ∙ is)))
                (cases_eq c k)

    pub behind_still : get_or starts new 0 ≡ get_or starts k 0 + get_or lens k 0
    behind_still = omega (arith, start_new, end_k, b, behind)

-- the exchange, with the numbers as they were read
pub put_last_read : (class order place start len : List ℕ) (rank : ℕ) → IsSegmented class order place start len rank → (p k : ℕ) → p < length order → get_or class p 0 ≡ k
    → (was other last : ℕ) → was ≡ get_or place p 0 → last + 1 ≡ get_or start k 0 + get_or len k 0 → other ≡ get_or order last 0
    → IsSegmented class (set (set order was other) last p) (set (set place other was) p last) start len rank
put_last_read class order place start len rank h p k inside is was other last f e o =
    let base = put_last class order place start len rank h p k inside is last e in
    subst (λ z. IsSegmented class (set (set order z other) last p) (set (set place other z) p last) start len rank) (sym f)
    (subst (λ w. IsSegmented class (set (set order (get_or place p 0) w) last p) (set (set place w (get_or place p 0)) p last) start len rank) (sym o) base)

-- a class that has a member has a last one
pub last_of : (class order place start len : List ℕ) (rank : ℕ) → IsSegmented class order place start len rank → (p k : ℕ) → p < length order → get_or class p 0 ≡ k
    → (s l : ℕ) → s ≡ get_or start k 0 → l ≡ get_or len k 0 → s + l - 1 + 1 ≡ get_or start k 0 + get_or len k 0
last_of class order place start len rank h p k inside is s l e f =
    let low = first_le class order place start len rank h p k inside is in
    let high = from_lt class order place start len rank h p k inside is in
    omega (arith, e, f, low, high)

-- one class of all numbers below a bound
pub IsSegmented-whole : (class order place start len : List ℕ) (n : ℕ) → 0 < n → n < 2 ^ 31 → class ≡ replicate n 0 → order ≡ range_with_len 0 n → place ≡ order → start ≡ replicate (n + 1) 0 → len ≡ set (replicate (n + 1) 0) 0 n
    → IsSegmented class order place start len 1
IsSegmented-whole class order place start len n some low c o p s l = record {
  small = omega (arith, low, size);
  classes = ap length c ∙ length-replicate {A = ℕ} n 0 ∙ sym size;
  places = ap length p;
  starts = omega (arith, ap length s, length-replicate {A = ℕ} (n + 1) 0, size);
  lens = omega (arith, ap length l, length-set (replicate (n + 1) 0) 0 n, length-replicate {A = ℕ} (n + 1) 0, size);
  ranks = omega arith;
  place_in = λ q h. omega (arith, placed q h, h);
  order_at = λ q h. ap (λ z. get_or order z 0) (placed q h) ∙ ordered q h;
  order_in = λ a h. omega (arith, ordered a h, h);
  place_at = λ a h. ap (λ z. get_or place z 0) (ordered a h) ∙ placed a h;
  class_in = λ q h. omega (arith, classed q h);
  low = λ q h. omega (arith, ap (λ z. get_or start z 0) (classed q h), started);
  high = λ q h. omega (arith, ap (λ z. get_or start z 0) (classed q h), ap (λ z. get_or len z 0) (classed q h), started, sized, placed q h, h, size);
  ends = λ k h. let z : k ≡ 0 = omega arith in omega (arith, ap (λ w. get_or start w 0) z, ap (λ w. get_or len w 0) z, started, sized, size);
  members = λ k h a lo hi.
      let z : k ≡ 0 = omega arith in
      let l : a < length order = omega (arith, hi, ap (λ w. get_or start w 0) z, ap (λ w. get_or len w 0) z, started, sized, size) in
      ap (λ w. get_or class w 0) (ordered a l) ∙ classed a l ∙ sym z;
}
  where
    size : length order ≡ n
    size = ap length o ∙ length-range_with_len 0 n

    ordered : (a : ℕ) → a < length order → get_or order a 0 ≡ a
    ordered a h = ap (λ w. get_or w a 0) o ∙ omega (arith, get_or-range_with_len 0 n a 0 (omega (arith, h, size)))

    placed : (a : ℕ) → a < length order → get_or place a 0 ≡ a
    placed a h = ap (λ w. get_or w a 0) p ∙ ordered a h

    classed : (q : ℕ) → q < length order → get_or class q 0 ≡ 0
    classed q h = ap (λ w. get_or w q 0) c ∙ get_or-replicate n q 0 0 (omega (arith, h, size))

    started : get_or start 0 0 ≡ 0
    started = ap (λ w. get_or w 0 0) s ∙ get_or-replicate (n + 1) 0 0 0 (omega arith)

    sized : get_or len 0 0 ≡ n
    sized = ap (λ w. get_or w 0 0) l ∙ get_or-set_same (replicate (n + 1) 0) 0 n 0 (omega (arith, length-replicate {A = ℕ} (n + 1) 0))

-- the places of a class, as a list
pub IsMembers-from : (s : Parting) → IsParting s → (k : ℕ) → k < s.rank → (members : List ℕ) → length members ≡ get_or s.len.items k 0
    → ((a : ℕ) → a < length members → get_or members a 0 ≡ get_or s.order.items (get_or s.start.items k 0 + a) 0) → IsMembers s.class.items k (stands_at s k) members
IsMembers-from s h k named members size entries = record {
  inside = λ a l. omega (arith, entries a l, h.order_in (from + a) (in_order a l), h.classes);
  member = λ a l. ap (λ p. get_or s.class.items p 0) (entries a l) ∙ h.members k named (from + a) (omega arith) (omega (arith, l, size));
  listed = λ p l e. omega (arith, (stands p l e).0, (stands p l e).1);
  is = λ p l e.
      let a : ℕ = stands_at s k p in
      let b = stands p l e in
      let whole : from + a ≡ get_or s.place.items p 0 = omega (arith, b.0) in
      entries a (omega (arith, b.0, b.1)) ∙ ap (λ q. get_or s.order.items q 0) whole ∙ h.order_at p (omega (arith, l, h.classes));
  back = λ a l. omega (arith, ap (λ p. get_or s.place.items p 0) (entries a l), h.place_at (from + a) (in_order a l));
}
  where
    from : ℕ
    from = get_or s.start.items k 0

    in_order : (a : ℕ) → a < length members → from + a < length s.order.items
    in_order a l = omega (arith, l, size, h.ends k named)

    stands : (p : ℕ) → p < length s.class.items → get_or s.class.items p 0 ≡ k → (from ≤ get_or s.place.items p 0) × (get_or s.place.items p 0 < from + length members)
    stands p l e =
        let low = h.low p (omega (arith, l, h.classes)) in
        let high = h.high p (omega (arith, l, h.classes)) in
        (omega (arith, low, ap (λ c. get_or s.start.items c 0) e), omega (arith, high, size, ap (λ c. get_or s.start.items c 0) e, ap (λ c. get_or s.len.items c 0) e))

-- the first member of a class in use
pub first_member : (s : Parting) → IsParting s → (k : ℕ) → k < s.rank → HasMember s.class.items k → (first_of s k < length s.order.items) × (class_at s (first_of s k) ≡ k)
first_member s h k named m =
    let inside : m.number < length s.order.items = omega (arith, m.inside, h.classes) in
    let low = h.low m.number inside in
    let high = h.high m.number inside in
    let start = ap (λ c. get_or s.start.items c 0) m.member in
    let size = ap (λ c. get_or s.len.items c 0) m.member in
    let some : get_or s.start.items k 0 < get_or s.start.items k 0 + get_or s.len.items k 0 = omega (arith, low, high, start, size) in
    (h.order_in (get_or s.start.items k 0) (omega (arith, some, h.ends k named)), h.members k named (get_or s.start.items k 0) (omega arith) some)
