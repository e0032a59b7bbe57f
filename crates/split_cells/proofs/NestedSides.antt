-- The triangles over one first side, counted over the second sides.
use Rattle.std.proofs.Common.{◌≡◌, ◌≢◌, ◌==◌, ◌&&◌, ℕ, ◌+◌, ◌-◌, ◌*◌, ◌/◌, ◌%◌, ◌^◌, ◌<◌, ◌≤◌, Bool, true, false, List, length, get_or, set, ⊎_elim, sym, ap, subst, ◌∙◌, arith}
use Rattle.std.proofs.lemmas.Bool.{cases_eq, ne_eqb, eq-eqb, eqb-true, and_from, and_parts}
use Rattle.std.proofs.lemmas.List.{length-set, get_or-set_same}
use Rattle.std.proofs.lemmas.Nat.{div-add-mod', div-mul-add, mod-mul-add}
use Rattle.pair_colours.proofs.Counts.{unit_of}
use Rattle.pair_colours.proofs.Places.{column_below, place_below}
use Rattle.pair_colours.proofs.Writes.{set_other_pair}
use Rattle.split_cells.specs.declared.triangle_counts.Triangle.{Triangle}
use Rattle.split_cells.specs.Segments.{IsMembers}
use Rattle.split_cells.specs.Sides.{IsRowCounted, is_over_left}
use Rattle.split_cells.proofs.GatherLemmas.{some_size}

-- the pairs (x, y) for which (z, y) is among the first a members of class right are counted once more, where they are in the class
pub record IsSideCountedTo (n : ℕ) (class : List ℕ) (at : ℕ → ℕ) (t : Triangle) (x z : ℕ) (old : List ℕ) (a : ℕ) (counts : List ℕ) : Type 0 where
  pub len : length counts ≡ n * n
  pub done : (y : ℕ) → y < n → get_or class (z * n + y) 0 ≡ t.right → at (z * n + y) < a
      → get_or counts (x * n + y) 0 ≡ get_or old (x * n + y) 0 + unit_of (is_over_left n class t x z y)
  pub rest : (u v : ℕ) → u < n → v < n → (u ≡ x → get_or class (z * n + v) 0 ≡ t.right → a ≤ at (z * n + v)) → get_or counts (u * n + v) 0 ≡ get_or old (u * n + v) 0

module _ {class : List ℕ} {at : ℕ → ℕ} {members : List ℕ} (n : ℕ) (t : Triangle) (m : IsMembers class t.right at members) (size : length class ≡ n * n)
    (x z : ℕ) (old : List ℕ) (hx : x < n) (hz : z < n) where
  pub IsSideCountedTo-start : length old ≡ n * n → IsSideCountedTo n class at t x z old 0 old
  IsSideCountedTo-start l = record {
    len = l;
    done = λ y hy e h. absurd (omega (arith, h));
    rest = λ u v hu hv o. λ i. get_or old (u * n + v) 0;
  }

  -- one member more
  module _ (a : ℕ) (low : a < length members) (counts : List ℕ) (b : IsSideCountedTo n class at t x z old a counts) where
    abbrev pub q : ℕ
    q = get_or members a 0

    pub member_in : q < n * n
    member_in = omega (arith, m.inside a low, size)

    some : 0 < n
    some = some_size n q member_in

    pub second_in : q % n < n
    second_in = column_below n q some

    back : q / n * n + q % n ≡ q
    back = div-add-mod' q n

    -- the member is (z, y) at most for its own second point
    next : (y : ℕ) → y < n → get_or class (z * n + y) 0 ≡ t.right → at (z * n + y) ≡ a → z * n + y ≡ q
    next y hy e f = sym (m.is (z * n + y) (omega (arith, place_below n z y hz hy, size)) e) ∙ ap (λ w. get_or members w 0) f

    -- so it is at most that of the pair (x, q % n)
    at_second : (y : ℕ) → y < n → z * n + y ≡ q → (q / n ≡ z) × (y ≡ q % n)
    at_second y hy e = (ap (λ w. w / n) (sym e) ∙ div-mul-add z n y hy, sym (mod-mul-add z n y hy) ∙ ap (λ w. w % n) e)

    -- the member is a side of a triangle on a pair of the class
    pub hit_over : ((q / n == z) && (get_or class (x * n + q % n) 0 == t.class)) ≡ true → is_over_left n class t x z (q % n) ≡ true
    hit_over h =
        let both = and_parts (q / n == z) (get_or class (x * n + q % n) 0 == t.class) h in
        let first : q / n ≡ z = eqb-true _ _ both.0 in
        and_from _ _ (eq-eqb _ _ (ap (λ w. get_or class (w * n + q % n) 0) (sym first) ∙ ap (λ w. get_or class w 0) back ∙ m.member a low)) both.1

    stands : (y : ℕ) → z * n + y ≡ q → a ≤ at (z * n + y)
    stands y e = let f : at (z * n + y) ≡ a = ap at e ∙ m.back a low in omega (arith, f)

    before_small : (y : ℕ) → y < n → ((p : ℕ) → get_or old p 0 < 2 ^ 31) → (z * n + y ≡ q) → get_or counts (x * n + y) 0 < 2 ^ 32 - 1
    before_small y hy few e =
        let same = b.rest x y hx hy (λ _ _. stands y e) in
        let f = few (x * n + y) in
        omega (arith, same, f)

    pub IsSideCountedTo-small : ((p : ℕ) → get_or old p 0 < 2 ^ 31) → ((q / n == z) && (get_or class (x * n + q % n) 0 == t.class)) ≡ true
        → (x * n + q % n < length counts) × (get_or counts (x * n + q % n) 0 < 2 ^ 32 - 1)
    IsSideCountedTo-small few h =
        let first : q / n ≡ z = eqb-true _ _ (and_parts (q / n == z) (get_or class (x * n + q % n) 0 == t.class) h).0 in (
          omega (arith, place_below n x (q % n) hx second_in, b.len),
          before_small (q % n) second_in few (ap (λ w. w * n + q % n) (sym first) ∙ back),
        )

    pub IsSideCountedTo-hit : (y v : ℕ) → y ≡ q % n → v ≡ get_or counts (x * n + y) 0 + 1 → ((q / n == z) && (get_or class (x * n + q % n) 0 == t.class)) ≡ true
        → IsSideCountedTo n class at t x z old (a + 1) (set counts (x * n + y) v)
    IsSideCountedTo-hit y v ey ev h =
        let hy : y < n = omega (arith, ey, second_in) in
        let first : q / n ≡ z = eqb-true _ _ (and_parts (q / n == z) (get_or class (x * n + q % n) 0 == t.class) h).0 in
        let whole : z * n + y ≡ q = (λ i. sym first i * n + ey i) ∙ back in
        let place : x * n + y < length counts = omega (arith, place_below n x y hx hy, b.len) in
        let hit : is_over_left n class t x z y ≡ true = ap (is_over_left n class t x z) ey ∙ hit_over h in
        record {
          len = length-set counts (x * n + y) v ∙ b.len;
          done = λ w hw e l. ⊎_elim
              (λ f.
              let same = get_or-set_same counts (x * n + y) v 0 place in
              let was = b.rest x y hx hy (λ _ _. stands y whole) in
              let one : unit_of (is_over_left n class t x z y) ≡ 1 = ap unit_of hit in
              subst (λ s. get_or (set counts (x * n + y) v) (x * n + s) 0 ≡ get_or old (x * n + s) 0 + unit_of (is_over_left n class t x z s)) (sym f)
              (omega (arith, same, was, one, ev)))
              (λ ne.
              let other : at (z * n + w) ≢ a = λ f. ne ((at_second w hw (next w hw e f)).1 ∙ sym ey) in
              set_other_pair counts n x y x w v hy hw (λ _ f. ne f) ∙ b.done w hw e (omega (arith, l, other)))
              (cases_eq w y);
          rest = λ u s hu hs o.
              set_other_pair counts n x y u s v hy hs (λ f g.
              let r : get_or class (z * n + s) 0 ≡ t.right = ap (λ k. get_or class (z * n + k) 0) g ∙ ap (λ k. get_or class k 0) whole ∙ m.member a low in
              let far = o f r in
              let here : at (z * n + s) ≡ a = ap (λ k. at (z * n + k)) g ∙ ap at whole ∙ m.back a low in
              omega (arith, far, here))
              ∙ b.rest u s hu hs (λ f r. let far = o f r in omega (arith, far));
        }

    pub IsSideCountedTo-miss : ((q / n == z) && (get_or class (x * n + q % n) 0 == t.class)) ≡ false → IsSideCountedTo n class at t x z old (a + 1) counts
    IsSideCountedTo-miss h = record {
      len = b.len;
      done = λ w hw e l. ⊎_elim
          (λ f.
          let s = at_second w hw (next w hw e f) in
          let none : is_over_left n class t x z w ≡ false = ap (is_over_left n class t x z) s.1 ∙ out s.0 in
          let was = b.rest x w hx hw (λ _ _. omega (arith, f)) in
          omega (arith, was, ap unit_of none))
          (λ (ne : at (z * n + w) ≢ a). b.done w hw e (omega (arith, l, ne)))
          (cases_eq (at (z * n + w)) a);
      rest = λ u s hu hs o. b.rest u s hu hs (λ f r. let far = o f r in omega (arith, far));
    }
      where
        out : q / n ≡ z → is_over_left n class t x z (q % n) ≡ false
        out e = ⊎_elim
            (λ f. let w : true ≡ false = sym (and_from _ _ (eq-eqb _ _ e) (eq-eqb _ _ f)) ∙ h in absurd (cc))
            (λ ne. second_false _ _ (ne_eqb _ _ ne))
            (cases_eq (get_or class (x * n + q % n) 0) t.class)
          where
            second_false : (s r : Bool) → r ≡ false → (s && r) ≡ false
            second_false true r e = e
            second_false false r e = λ i. false

  pub IsRowCounted-over : (a : ℕ) (counts : List ℕ) → length members ≤ a → IsSideCountedTo n class at t x z old a counts → IsRowCounted n class t x z old counts
  IsRowCounted-over a counts end b = record {
    len = b.len;
    row = λ y hy. ⊎_elim
        (λ e. b.done y hy e (omega (arith, m.listed (z * n + y) (omega (arith, place_below n z y hz hy, size)) e, end)))
        (λ ne.
        let was = b.rest x y hx hy (λ _ e. absurd (ne e)) in
        let none : unit_of (is_over_left n class t x z y) ≡ 0 = ap (λ s. unit_of (s && (get_or class (x * n + y) 0 == t.class))) (ne_eqb _ _ ne) in
        omega (arith, was, none))
        (cases_eq (get_or class (z * n + y) 0) t.right);
    others = λ u v hu hv ne. b.rest u v hu hv (λ f. absurd (ne f));
  }
