-- Triangles counted over their first sides.
use Rattle.std.proofs.Common.{◌≡◌, ◌≢◌, ◌==◌, ◌&&◌, nat_lt, ℕ, ◌+◌, ◌-◌, ◌*◌, ◌/◌, ◌%◌, ◌^◌, ◌<◌, ◌≤◌, Bool, true, false, List, length, get_or, set, count_by, ⊎_elim, refl, sym, ap, subst, ◌∙◌, arith}
use Rattle.std.proofs.lemmas.Bool.{cases_eq, cases_lt, eq-eqb, ne_eqb, lt-ltb, le-ltb}
use Rattle.std.proofs.lemmas.List.{length-set, get_or-set_same, get_or_past}
use Rattle.std.proofs.lemmas.Nat.{div-add-mod', same_from_place}
use Rattle.pair_colours.specs.Colouring.{points}
use Rattle.pair_colours.proofs.Counts.{unit_of, count_by_points, count_short}
use Rattle.pair_colours.proofs.Places.{row_below, column_below, place_below}
use Rattle.pair_colours.proofs.Writes.{set_other_pair}
use Rattle.trace_text.specs.declared.step_list.Step.TheVariants.{Tri}
use Rattle.split_cells.specs.declared.triangle_counts.Triangle.{Triangle}
use Rattle.split_cells.specs.Segments.{IsMembers}
use Rattle.split_cells.specs.Grids.{grid}
use Rattle.split_cells.specs.Keys.{IsGathered, IsBlank, key_at}
use Rattle.split_cells.specs.Sides.{IsRowCounted, is_over_left}
use Rattle.wl_round.proofs.PointCounts.{count_none, count_one_more, square_le}
use Rattle.split_cells.proofs.GatherLemmas.{some_size}

-- of the pairs of row x, those before y are counted once more
pub record IsRowCountedTo (n : ℕ) (class : List ℕ) (t : Triangle) (x z : ℕ) (old : List ℕ) (y : ℕ) (counts : List ℕ) : Type 0 where
  pub len : length counts ≡ n * n
  pub done : (v : ℕ) → v < y → get_or counts (x * n + v) 0 ≡ get_or old (x * n + v) 0 + unit_of (is_over_left n class t x z v)
  pub rest : (u v : ℕ) → u < n → v < n → (u ≡ x → y ≤ v) → get_or counts (u * n + v) 0 ≡ get_or old (u * n + v) 0

module _ (n : ℕ) (class : List ℕ) (t : Triangle) (x z : ℕ) (old : List ℕ) (hx : x < n) where
  pub IsRowCountedTo-hit : (y : ℕ) (counts : List ℕ) → y < n → is_over_left n class t x z y ≡ true → IsRowCountedTo n class t x z old y counts
      → IsRowCountedTo n class t x z old (y + 1) (set counts (x * n + y) (get_or counts (x * n + y) 0 + 1))
  IsRowCountedTo-hit y counts hy hit b = record {
    len = length-set counts (x * n + y) (get_or counts (x * n + y) 0 + 1) ∙ b.len;
    done = λ v l. ⊎_elim
        (λ e.
        let same = get_or-set_same counts (x * n + y) (get_or counts (x * n + y) 0 + 1) 0 (omega (arith, place_below n x y hx hy, b.len)) in
        let before = b.rest x y hx hy (λ _. omega arith) in
        let one : unit_of (is_over_left n class t x z y) ≡ 1 = ap unit_of hit in
        subst (λ w. get_or (set counts (x * n + y) (get_or counts (x * n + y) 0 + 1)) (x * n + w) 0 ≡ get_or old (x * n + w) 0 + unit_of (is_over_left n class t x z w)) (sym e)
        (omega (arith, same, before, one)))
        (λ ne. set_other_pair counts n x y x v (get_or counts (x * n + y) 0 + 1) hy (omega (arith, l, hy)) (λ _ f. ne f) ∙ b.done v (omega (arith, l, ne)))
        (cases_eq v y);
    rest = λ u v hu hv o. set_other_pair counts n x y u v (get_or counts (x * n + y) 0 + 1) hy hv (λ e f. let w = o e in omega (arith, w, f)) ∙ b.rest u v hu hv (λ e. let w = o e in omega (arith, w));
  }

  pub IsRowCountedTo-miss : (y : ℕ) (counts : List ℕ) → y < n → is_over_left n class t x z y ≡ false → IsRowCountedTo n class t x z old y counts → IsRowCountedTo n class t x z old (y + 1) counts
  IsRowCountedTo-miss y counts hy miss b = record {
    len = b.len;
    done = λ v l. ⊎_elim
        (λ e.
        let before = b.rest x y hx hy (λ _. omega arith) in
        let none : unit_of (is_over_left n class t x z y) ≡ 0 = ap unit_of miss in
        subst (λ w. get_or counts (x * n + w) 0 ≡ get_or old (x * n + w) 0 + unit_of (is_over_left n class t x z w)) (sym e)
        (omega (arith, before, none)))
        (λ ne. b.done v (omega (arith, l, ne)))
        (cases_eq v y);
    rest = λ u v hu hv o. b.rest u v hu hv (λ e. let w = o e in omega (arith, w));
  }

  -- before the step that is counted, a count is still small
  pub IsRowCountedTo-small : (y : ℕ) (counts : List ℕ) → y < n → ((p : ℕ) → get_or old p 0 < 2 ^ 31) → IsRowCountedTo n class t x z old y counts
      → (x * n + y < length counts) × (get_or counts (x * n + y) 0 < 2 ^ 32 - 1)
  IsRowCountedTo-small y counts hy few b =
      let e = b.rest x y hx hy (λ _. omega arith) in
      let f = few (x * n + y) in
      (omega (arith, place_below n x y hx hy, b.len), omega (arith, e, f))

  pub IsRowCounted-from : (y : ℕ) (counts : List ℕ) → n ≤ y → IsRowCountedTo n class t x z old y counts → IsRowCounted n class t x z old counts
  IsRowCounted-from y counts e b = record {
    len = b.len;
    row = λ v hv. b.done v (omega (arith, e, hv));
    others = λ u v hu hv ne. b.rest u v hu hv (λ f. absurd (ne f));
  }

-- the first side is among the first a members of class left
abbrev pub is_side : ℕ → List ℕ → (ℕ → ℕ) → Triangle → ℕ → ℕ → ℕ → ℕ → Bool
is_side n class at t u v a z = ((get_or class (u * n + z) 0 == t.left) && nat_lt (at (u * n + z)) a) && (get_or class (z * n + v) 0 == t.right)

-- those triangles are counted
pub record IsCountedTo (n : ℕ) (class : List ℕ) (at : ℕ → ℕ) (t : Triangle) (a : ℕ) (counts : List ℕ) : Type 0 where
  pub len : length counts ≡ n * n
  pub counted : (u v : ℕ) → u < n → v < n → get_or class (u * n + v) 0 ≡ t.class → get_or counts (u * n + v) 0 ≡ count_by (is_side n class at t u v a) (points n)
  pub outside : (u v : ℕ) → u < n → v < n → get_or class (u * n + v) 0 ≢ t.class → get_or counts (u * n + v) 0 ≡ 0

module _ {class : List ℕ} {at : ℕ → ℕ} {members : List ℕ} (n : ℕ) (t : Triangle) (m : IsMembers class t.left at members) (size : length class ≡ n * n) where
  low_at : (u v : ℕ) → u < n → v < n → u * n + v < length class
  low_at u v hu hv = omega (arith, size, place_below n u v hu hv)

  pub IsCountedTo-start : (counts : List ℕ) → IsBlank class counts → IsCountedTo n class at t 0 counts
  IsCountedTo-start counts b = record {
    len = b.len ∙ size;
    counted = λ u v hu hv is. b.zero_everywhere (u * n + v) ∙ sym (count_none (is_side n class at t u v 0) n (λ z hz.
        none (get_or class (u * n + z) 0 == t.left) _ (get_or class (z * n + v) 0 == t.right) (le-ltb (at (u * n + z)) 0 (omega arith))));
    outside = λ u v hu hv ne. b.zero_everywhere (u * n + v);
  }
    where
      none : (p q r : Bool) → q ≡ false → ((p && q) && r) ≡ false
      none true q r e = ap (λ s. s && r) e
      none false q r e = refl

  pub IsCountedTo-few : (a : ℕ) (counts : List ℕ) → n * n < 2 ^ 31 → IsCountedTo n class at t a counts → (p : ℕ) → get_or counts p 0 < 2 ^ 31
  IsCountedTo-few a counts small c p =
      ⊎_elim inside (λ past. omega (arith, get_or_past counts p 0 (omega (arith, past, c.len)))) (cases_lt p (n * n))
    where
      inside : p < n * n → get_or counts p 0 < 2 ^ 31
      inside l =
          let some = some_size n p l in
          let u = row_below n p some l in
          let v = column_below n p some in
          let back : get_or counts (p / n * n + p % n) 0 ≡ get_or counts p 0 = ap (λ q. get_or counts q 0) (div-add-mod' p n) in
          let square = square_le n some in
          ⊎_elim
          (λ e. omega (arith, back, c.counted (p / n) (p % n) u v e, count_short (is_side n class at t (p / n) (p % n) a) n, square, small))
          (λ ne. omega (arith, back, c.outside (p / n) (p % n) u v ne))
          (cases_eq (get_or class (p / n * n + p % n) 0) t.class)

  -- one member more
  pub IsCountedTo-more : (a p : ℕ) (old new : List ℕ) → a < length members → p ≡ get_or members a 0 → IsRowCounted n class t (p / n) (p % n) old new
      → IsCountedTo n class at t a old → IsCountedTo n class at t (a + 1) new
  IsCountedTo-more a p old new low is r c = record {
    len = r.len;
    counted = λ u v hu hv e. ⊎_elim (λ f. here u v hu hv e f) (λ ne. there u v hu hv e ne) (cases_eq u (p / n));
    outside = λ u v hu hv e. ⊎_elim
        (λ f.
        let one = r.row v hv in
        let o = c.outside u v hu hv e in
        let miss : unit_of (is_over_left n class t (p / n) (p % n) v) ≡ 0 = ap unit_of (second_false _ _ (ne_eqb _ _ (λ g. e (ap (λ w. get_or class (w * n + v) 0) f ∙ g)))) in
        let x = ap (λ w. get_or new (w * n + v) 0) f in
        let y = ap (λ w. get_or old (w * n + v) 0) f in
        omega (arith, one, o, miss, x, y))
        (λ ne. r.others u v hu hv ne ∙ c.outside u v hu hv e)
        (cases_eq u (p / n));
  }
    where
      second_false : (s q : Bool) → q ≡ false → (s && q) ≡ false
      second_false true q e = e
      second_false false q e = refl

      p_in : p < n * n
      p_in = omega (arith, is, m.inside a low, size)

      some : 0 < n
      some = some_size n p p_in

      x0 : p / n < n
      x0 = row_below n p some p_in

      z0 : p % n < n
      z0 = column_below n p some

      back : p / n * n + p % n ≡ p
      back = div-add-mod' p n

      at_p : at p ≡ a
      at_p = ap at is ∙ m.back a low

      class_p : get_or class p 0 ≡ t.left
      class_p = ap (λ q. get_or class q 0) is ∙ m.member a low

      -- only p stands at place a
      only : (u z : ℕ) → u < n → z < n → get_or class (u * n + z) 0 ≡ t.left → at (u * n + z) ≡ a → (u ≡ p / n) × (z ≡ p % n)
      only u z hu hz l e =
          same_from_place u z (p / n) (p % n) n hz z0 (sym (m.is (u * n + z) (low_at u z hu hz) l) ∙ ap (λ b. get_or members b 0) e ∙ sym is ∙ sym back)

      -- so the test is the same at each other pair
      same_lt : (q : ℕ) → at q ≢ a → nat_lt (at q) a ≡ nat_lt (at q) (a + 1)
      same_lt q ne =
          ⊎_elim
          (λ l. lt-ltb _ _ l ∙ sym (lt-ltb (at q) (a + 1) (omega (arith, l))))
          (λ l. le-ltb _ _ l ∙ sym (le-ltb (at q) (a + 1) (omega (arith, l, ne))))
          (cases_lt (at q) a)

      same_side : (u v z : ℕ) → (get_or class (u * n + z) 0 ≡ t.left → at (u * n + z) ≢ a) → is_side n class at t u v a z ≡ is_side n class at t u v (a + 1) z
      same_side u v z other = ⊎_elim
          (λ l. ap (λ s. ((get_or class (u * n + z) 0 == t.left) && s) && (get_or class (z * n + v) 0 == t.right)) (same_lt (u * n + z) (other l)))
          (λ ne. (λ i. ((ne_eqb _ _ ne i) && nat_lt (at (u * n + z)) a) && (get_or class (z * n + v) 0 == t.right))
          ∙ sym (λ i. ((ne_eqb _ _ ne i) && nat_lt (at (u * n + z)) (a + 1)) && (get_or class (z * n + v) 0 == t.right)))
          (cases_eq (get_or class (u * n + z) 0) t.left)

      there : (u v : ℕ) → u < n → v < n → get_or class (u * n + v) 0 ≡ t.class → u ≢ p / n → get_or new (u * n + v) 0 ≡ count_by (is_side n class at t u v (a + 1)) (points n)
      there u v hu hv e ne =
          r.others u v hu hv ne ∙ c.counted u v hu hv e
          ∙ count_by_points (is_side n class at t u v a) (is_side n class at t u v (a + 1)) n (λ z hz. same_side u v z (λ l f. ne (only u z hu hz l f).0))

      here : (u v : ℕ) → u < n → v < n → get_or class (u * n + v) 0 ≡ t.class → u ≡ p / n → get_or new (u * n + v) 0 ≡ count_by (is_side n class at t u v (a + 1)) (points n)
      here u v hu hv e f =
          subst (λ w. get_or new (w * n + v) 0 ≡ count_by (is_side n class at t w v (a + 1)) (points n)) (sym f) (
          let ek : get_or class (p / n * n + v) 0 ≡ t.class = ap (λ w. get_or class (w * n + v) 0) (sym f) ∙ e in
          let at_here : at (p / n * n + p % n) ≡ a = ap at back ∙ at_p in
          let not_yet : is_side n class at t (p / n) v a (p % n) ≡ false =
          ap (λ s. ((get_or class (p / n * n + p % n) 0 == t.left) && s) && (get_or class (p % n * n + v) 0 == t.right)) (le-ltb _ _ (omega (arith, at_here)))
          ∙ dead (get_or class (p / n * n + p % n) 0 == t.left) (get_or class (p % n * n + v) 0 == t.right) in
          let now : is_side n class at t (p / n) v (a + 1) (p % n) ≡ (get_or class (p % n * n + v) 0 == t.right) =
          (λ i. ((eq-eqb _ _ (ap (λ q. get_or class q 0) back ∙ class_p) i) && (lt-ltb (at (p / n * n + p % n)) (a + 1) (omega (arith, at_here)) i)) && (get_or class (p % n * n + v) 0 == t.right)) in
          let hit : is_over_left n class t (p / n) (p % n) v ≡ (get_or class (p % n * n + v) 0 == t.right) =
          ap (λ s. (get_or class (p % n * n + v) 0 == t.right) && s) (eq-eqb _ _ ek) ∙ and_true (get_or class (p % n * n + v) 0 == t.right) in
          let more = count_one_more (is_side n class at t (p / n) v a) (is_side n class at t (p / n) v (a + 1)) n (p % n) z0
          (λ z hz ne. same_side (p / n) v z (λ l g. ne (only (p / n) z x0 hz l g).1)) not_yet in
          let one = r.row v hv in
          let o = c.counted (p / n) v x0 hv ek in
          let units : unit_of (is_side n class at t (p / n) v (a + 1) (p % n)) ≡ unit_of (is_over_left n class t (p / n) (p % n) v) = ap unit_of (now ∙ sym hit) in
          omega (arith, more, one, o, units))
        where
          dead : (s q : Bool) → ((s && false) && q) ≡ false
          dead true q = refl
          dead false q = refl

          and_true : (s : Bool) → (s && true) ≡ s
          and_true true = refl
          and_true false = refl

  -- with all members, these are the keys
  pub IsCountedTo-end : (a : ℕ) (counts : List ℕ) → length members ≤ a → IsCountedTo n class at t a counts
      → IsGathered class t.class (key_at (grid n class) (Tri t.class t.left t.right)) counts
  IsCountedTo-end a counts end c = record {
    len = c.len ∙ sym size;
    inside = λ p l is.
        let low : p < n * n = omega (arith, l, size) in
        let some = some_size n p low in
        let back : p / n * n + p % n ≡ p = div-add-mod' p n in
        let u = row_below n p some low in
        let v = column_below n p some in
        ap (λ q. get_or counts q 0) (sym back)
        ∙ c.counted (p / n) (p % n) u v (ap (λ q. get_or class q 0) back ∙ is)
        ∙ count_by_points (is_side n class at t (p / n) (p % n) a) (λ z. (get_or class (p / n * n + z) 0 == t.left) && (get_or class (z * n + p % n) 0 == t.right)) n (λ z hz.
        ap (λ s. s && (get_or class (z * n + p % n) 0 == t.right)) (all (p / n) z u hz));
    outside = λ p l ne.
        let low : p < n * n = omega (arith, l, size) in
        let some = some_size n p low in
        let back : p / n * n + p % n ≡ p = div-add-mod' p n in
        ap (λ q. get_or counts q 0) (sym back) ∙ c.outside (p / n) (p % n) (row_below n p some low) (column_below n p some) (λ e. ne (ap (λ q. get_or class q 0) (sym back) ∙ e));
  }
    where
      all : (u z : ℕ) → u < n → z < n → ((get_or class (u * n + z) 0 == t.left) && nat_lt (at (u * n + z)) a) ≡ (get_or class (u * n + z) 0 == t.left)
      all u z hu hz =
          ⊎_elim
          (λ e.
          let lt : nat_lt (at (u * n + z)) a ≡ true = lt-ltb _ _ (omega (arith, m.listed (u * n + z) (low_at u z hu hz) e, end)) in
          (λ i. eq-eqb _ _ e i && lt i) ∙ sym (eq-eqb _ _ e))
          (λ ne. (λ i. ne_eqb _ _ ne i && nat_lt (at (u * n + z)) a) ∙ sym (ne_eqb _ _ ne))
          (cases_eq (get_or class (u * n + z) 0) t.left)
