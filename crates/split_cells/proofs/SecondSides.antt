-- Triangles counted over their second sides.
use Rattle.std.proofs.Common.{◌≡◌, ◌≢◌, ◌==◌, ◌&&◌, nat_lt, ℕ, ◌+◌, ◌-◌, ◌*◌, ◌/◌, ◌%◌, ◌^◌, ◌<◌, ◌≤◌, Bool, true, false, List, length, get_or, set, count_by, ⊎_elim, refl, sym, ap, subst, ◌∙◌, arith}
use Rattle.std.proofs.lemmas.Bool.{cases_eq, cases_lt, eq-eqb, ne_eqb, lt-ltb, le-ltb}
use Rattle.std.proofs.lemmas.List.{length-set, get_or-set_same, get_or_past}
use Rattle.std.proofs.lemmas.Nat.{div-add-mod', same_from_place}
use Rattle.pair_colours.specs.Colouring.{points}
use Rattle.pair_colours.proofs.Counts.{unit_of, count_by_points, count_short}
use Rattle.pair_colours.proofs.Places.{row_below, column_below, place_below}
use Rattle.pair_colours.proofs.Writes.{set_other_pair}
use Rattle.trace_text.specs.declared.step_list.Step.TheVariants.{Tri}
use Rattle.split_cells.specs.declared.triangle_counts.Triangle.{Triangle}
use Rattle.split_cells.specs.Segments.{IsMembers}
use Rattle.split_cells.specs.Grids.{IsTurned, grid}
use Rattle.split_cells.specs.Keys.{IsGathered, IsBlank, key_at}
use Rattle.split_cells.specs.Sides.{IsColumnCounted, is_over_right}
use Rattle.wl_round.proofs.PointCounts.{count_none, count_one_more, square_le}
use Rattle.split_cells.proofs.GatherLemmas.{some_size}

-- of the pairs of column y, those before x are counted once more
pub record IsColumnCountedTo (n : ℕ) (turned : List ℕ) (t : Triangle) (z y : ℕ) (old : List ℕ) (x : ℕ) (counts : List ℕ) : Type 0 where
  pub len : length counts ≡ n * n
  pub done : (u : ℕ) → u < x → get_or counts (u * n + y) 0 ≡ get_or old (u * n + y) 0 + unit_of (is_over_right n turned t z y u)
  pub rest : (u v : ℕ) → u < n → v < n → (v ≡ y → x ≤ u) → get_or counts (u * n + v) 0 ≡ get_or old (u * n + v) 0

module _ (n : ℕ) (turned : List ℕ) (t : Triangle) (z y : ℕ) (old : List ℕ) (hy : y < n) where
  pub IsColumnCountedTo-hit : (x : ℕ) (counts : List ℕ) → x < n → is_over_right n turned t z y x ≡ true → IsColumnCountedTo n turned t z y old x counts
      → IsColumnCountedTo n turned t z y old (x + 1) (set counts (x * n + y) (get_or counts (x * n + y) 0 + 1))
  IsColumnCountedTo-hit x counts hx hit b = record {
    len = length-set counts (x * n + y) (get_or counts (x * n + y) 0 + 1) ∙ b.len;
    done = λ u l. ⊎_elim
        (λ e.
        let same = get_or-set_same counts (x * n + y) (get_or counts (x * n + y) 0 + 1) 0 (omega (arith, place_below n x y hx hy, b.len)) in
        let before = b.rest x y hx hy (λ _. omega arith) in
        let one : unit_of (is_over_right n turned t z y x) ≡ 1 = ap unit_of hit in
        subst (λ w. get_or (set counts (x * n + y) (get_or counts (x * n + y) 0 + 1)) (w * n + y) 0 ≡ get_or old (w * n + y) 0 + unit_of (is_over_right n turned t z y w)) (sym e)
        (omega (arith, same, before, one)))
        (λ ne. set_other_pair counts n x y u y (get_or counts (x * n + y) 0 + 1) hy hy (λ f _. ne f) ∙ b.done u (omega (arith, l, ne)))
        (cases_eq u x);
    rest = λ u v hu hv o. set_other_pair counts n x y u v (get_or counts (x * n + y) 0 + 1) hy hv (λ f e. let w = o e in omega (arith, w, f)) ∙ b.rest u v hu hv (λ e. let w = o e in omega (arith, w));
  }

  pub IsColumnCountedTo-miss : (x : ℕ) (counts : List ℕ) → x < n → is_over_right n turned t z y x ≡ false → IsColumnCountedTo n turned t z y old x counts → IsColumnCountedTo n turned t z y old (x + 1) counts
  IsColumnCountedTo-miss x counts hx miss b = record {
    len = b.len;
    done = λ u l. ⊎_elim
        (λ e.
        let before = b.rest x y hx hy (λ _. omega arith) in
        let none : unit_of (is_over_right n turned t z y x) ≡ 0 = ap unit_of miss in
        subst (λ w. get_or counts (w * n + y) 0 ≡ get_or old (w * n + y) 0 + unit_of (is_over_right n turned t z y w)) (sym e)
        (omega (arith, before, none)))
        (λ ne. b.done u (omega (arith, l, ne)))
        (cases_eq u x);
    rest = λ u v hu hv o. b.rest u v hu hv (λ e. let w = o e in omega (arith, w));
  }

  -- before the step that is counted, a count is still small
  pub IsColumnCountedTo-small : (x : ℕ) (counts : List ℕ) → x < n → ((p : ℕ) → get_or old p 0 < 2 ^ 31) → IsColumnCountedTo n turned t z y old x counts
      → (x * n + y < length counts) × (get_or counts (x * n + y) 0 < 2 ^ 32 - 1)
  IsColumnCountedTo-small x counts hx few b =
      let e = b.rest x y hx hy (λ _. omega arith) in
      let f = few (x * n + y) in
      (omega (arith, place_below n x y hx hy, b.len), omega (arith, e, f))

  pub IsColumnCounted-from : (x : ℕ) (counts : List ℕ) → n ≤ x → IsColumnCountedTo n turned t z y old x counts → IsColumnCounted n turned t z y old counts
  IsColumnCounted-from x counts e b = record {
    len = b.len;
    column = λ u hu. b.done u (omega (arith, e, hu));
    others = λ u v hu hv ne. b.rest u v hu hv (λ f. absurd (ne f));
  }

-- the second side is among the first a members of class right
abbrev pub is_side : ℕ → List ℕ → (ℕ → ℕ) → Triangle → ℕ → ℕ → ℕ → ℕ → Bool
is_side n class at t u v a z = (get_or class (u * n + z) 0 == t.left) && ((get_or class (z * n + v) 0 == t.right) && nat_lt (at (z * n + v)) a)

-- those triangles are counted
pub record IsCountedTo (n : ℕ) (class : List ℕ) (at : ℕ → ℕ) (t : Triangle) (a : ℕ) (counts : List ℕ) : Type 0 where
  pub len : length counts ≡ n * n
  pub counted : (u v : ℕ) → u < n → v < n → get_or class (u * n + v) 0 ≡ t.class → get_or counts (u * n + v) 0 ≡ count_by (is_side n class at t u v a) (points n)
  pub outside : (u v : ℕ) → u < n → v < n → get_or class (u * n + v) 0 ≢ t.class → get_or counts (u * n + v) 0 ≡ 0

module _ {class : List ℕ} {at : ℕ → ℕ} {members : List ℕ} (n : ℕ) (t : Triangle) (m : IsMembers class t.right at members) (size : length class ≡ n * n) where
  low_at : (u v : ℕ) → u < n → v < n → u * n + v < length class
  low_at u v hu hv = omega (arith, size, place_below n u v hu hv)

  pub IsCountedTo-start : (counts : List ℕ) → IsBlank class counts → IsCountedTo n class at t 0 counts
  IsCountedTo-start counts b = record {
    len = b.len ∙ size;
    counted = λ u v hu hv is. b.zero_everywhere (u * n + v) ∙ sym (count_none (is_side n class at t u v 0) n (λ z hz.
        none (get_or class (u * n + z) 0 == t.left) (get_or class (z * n + v) 0 == t.right) _ (le-ltb (at (z * n + v)) 0 (omega arith))));
    outside = λ u v hu hv ne. b.zero_everywhere (u * n + v);
  }
    where
      none : (p q r : Bool) → r ≡ false → (p && (q && r)) ≡ false
      none true true r e = e
      none true false r e = refl
      none false q r e = refl

  pub IsCountedTo-few : (a : ℕ) (counts : List ℕ) → n * n < 2 ^ 31 → IsCountedTo n class at t a counts → (p : ℕ) → get_or counts p 0 < 2 ^ 31
  IsCountedTo-few a counts small c p =
      ⊎_elim inside (λ past. omega (arith, get_or_past counts p 0 (omega (arith, past, c.len)))) (cases_lt p (n * n))
    where
      inside : p < n * n → get_or counts p 0 < 2 ^ 31
      inside l =
          let some = some_size n p l in
          let u = row_below n p some l in
          let v = column_below n p some in
          let back : get_or counts (p / n * n + p % n) 0 ≡ get_or counts p 0 = ap (λ q. get_or counts q 0) (div-add-mod' p n) in
          let square = square_le n some in
          ⊎_elim
          (λ e. omega (arith, back, c.counted (p / n) (p % n) u v e, count_short (is_side n class at t (p / n) (p % n) a) n, square, small))
          (λ ne. omega (arith, back, c.outside (p / n) (p % n) u v ne))
          (cases_eq (get_or class (p / n * n + p % n) 0) t.class)

  -- one member more
  pub IsCountedTo-more : (turned : List ℕ) → IsTurned n class turned → (a p : ℕ) (old new : List ℕ) → a < length members → p ≡ get_or members a 0
      → IsColumnCounted n turned t (p / n) (p % n) old new → IsCountedTo n class at t a old → IsCountedTo n class at t (a + 1) new
  IsCountedTo-more turned f a p old new low is r c = record {
    len = r.len;
    counted = λ u v hu hv e. ⊎_elim (λ g. here u v hu hv e g) (λ ne. there u v hu hv e ne) (cases_eq v (p % n));
    outside = λ u v hu hv e. ⊎_elim
        (λ g.
        let one = r.column u hu in
        let o = c.outside u v hu hv e in
        let miss : unit_of (is_over_right n turned t (p / n) (p % n) u) ≡ 0 =
        ap unit_of (second_false _ _ (ne_eqb _ _ (λ h. e (ap (λ w. get_or class (u * n + w) 0) g ∙ sym (f.is (p % n) u z0 hu) ∙ h)))) in
        let x = ap (λ w. get_or new (u * n + w) 0) g in
        let y = ap (λ w. get_or old (u * n + w) 0) g in
        omega (arith, one, o, miss, x, y))
        (λ ne. r.others u v hu hv ne ∙ c.outside u v hu hv e)
        (cases_eq v (p % n));
  }
    where
      second_false : (s q : Bool) → q ≡ false → (s && q) ≡ false
      second_false true q e = e
      second_false false q e = refl

      p_in : p < n * n
      p_in = omega (arith, is, m.inside a low, size)

      some : 0 < n
      some = some_size n p p_in

      x0 : p / n < n
      x0 = row_below n p some p_in

      z0 : p % n < n
      z0 = column_below n p some

      back : p / n * n + p % n ≡ p
      back = div-add-mod' p n

      at_p : at p ≡ a
      at_p = ap at is ∙ m.back a low

      class_p : get_or class p 0 ≡ t.right
      class_p = ap (λ q. get_or class q 0) is ∙ m.member a low

      -- only p stands at place a
      only : (z v : ℕ) → z < n → v < n → get_or class (z * n + v) 0 ≡ t.right → at (z * n + v) ≡ a → (z ≡ p / n) × (v ≡ p % n)
      only z v hz hv l e =
          same_from_place z v (p / n) (p % n) n hv z0 (sym (m.is (z * n + v) (low_at z v hz hv) l) ∙ ap (λ b. get_or members b 0) e ∙ sym is ∙ sym back)

      same_lt : (q : ℕ) → at q ≢ a → nat_lt (at q) a ≡ nat_lt (at q) (a + 1)
      same_lt q ne =
          ⊎_elim
          (λ l. lt-ltb _ _ l ∙ sym (lt-ltb (at q) (a + 1) (omega (arith, l))))
          (λ l. le-ltb _ _ l ∙ sym (le-ltb (at q) (a + 1) (omega (arith, l, ne))))
          (cases_lt (at q) a)

      same_side : (u v z : ℕ) → (get_or class (z * n + v) 0 ≡ t.right → at (z * n + v) ≢ a) → is_side n class at t u v a z ≡ is_side n class at t u v (a + 1) z
      same_side u v z other = ⊎_elim
          (λ l. ap (λ s. (get_or class (u * n + z) 0 == t.left) && ((get_or class (z * n + v) 0 == t.right) && s)) (same_lt (z * n + v) (other l)))
          (λ ne. (λ i. (get_or class (u * n + z) 0 == t.left) && (ne_eqb _ _ ne i && nat_lt (at (z * n + v)) a))
          ∙ sym (λ i. (get_or class (u * n + z) 0 == t.left) && (ne_eqb _ _ ne i && nat_lt (at (z * n + v)) (a + 1))))
          (cases_eq (get_or class (z * n + v) 0) t.right)

      there : (u v : ℕ) → u < n → v < n → get_or class (u * n + v) 0 ≡ t.class → v ≢ p % n → get_or new (u * n + v) 0 ≡ count_by (is_side n class at t u v (a + 1)) (points n)
      there u v hu hv e ne =
          r.others u v hu hv ne ∙ c.counted u v hu hv e
          ∙ count_by_points (is_side n class at t u v a) (is_side n class at t u v (a + 1)) n (λ z hz. same_side u v z (λ l g. ne (only z v hz hv l g).1))

      here : (u v : ℕ) → u < n → v < n → get_or class (u * n + v) 0 ≡ t.class → v ≡ p % n → get_or new (u * n + v) 0 ≡ count_by (is_side n class at t u v (a + 1)) (points n)
      here u v hu hv e g =
          subst (λ w. get_or new (u * n + w) 0 ≡ count_by (is_side n class at t u w (a + 1)) (points n)) (sym g) (
          let ek : get_or class (u * n + p % n) 0 ≡ t.class = ap (λ w. get_or class (u * n + w) 0) (sym g) ∙ e in
          let at_here : at (p / n * n + p % n) ≡ a = ap at back ∙ at_p in
          let not_yet : is_side n class at t u (p % n) a (p / n) ≡ false =
          ap (λ s. (get_or class (u * n + p / n) 0 == t.left) && ((get_or class (p / n * n + p % n) 0 == t.right) && s)) (le-ltb _ _ (omega (arith, at_here)))
          ∙ dead (get_or class (u * n + p / n) 0 == t.left) (get_or class (p / n * n + p % n) 0 == t.right) in
          let now : is_side n class at t u (p % n) (a + 1) (p / n) ≡ (get_or class (u * n + p / n) 0 == t.left) =
          (λ i. (get_or class (u * n + p / n) 0 == t.left) && (eq-eqb _ _ (ap (λ q. get_or class q 0) back ∙ class_p) i && lt-ltb (at (p / n * n + p % n)) (a + 1) (omega (arith, at_here)) i))
          ∙ and_true (get_or class (u * n + p / n) 0 == t.left) in
          let first : (get_or turned (p / n * n + u) 0 == t.left) ≡ (get_or class (u * n + p / n) 0 == t.left) = ap (λ w. w == t.left) (f.is (p / n) u x0 hu) in
          let hit : is_over_right n turned t (p / n) (p % n) u ≡ (get_or class (u * n + p / n) 0 == t.left) =
          (λ i. first i && eq-eqb _ _ (f.is (p % n) u z0 hu ∙ ek) i) ∙ and_true (get_or class (u * n + p / n) 0 == t.left) in
          let more = count_one_more (is_side n class at t u (p % n) a) (is_side n class at t u (p % n) (a + 1)) n (p / n) x0
          (λ z hz ne. same_side u (p % n) z (λ l h. ne (only z (p % n) hz z0 l h).0)) not_yet in
          let one = r.column u hu in
          let o = c.counted u (p % n) hu z0 ek in
          let units : unit_of (is_side n class at t u (p % n) (a + 1) (p / n)) ≡ unit_of (is_over_right n turned t (p / n) (p % n) u) = ap unit_of (now ∙ sym hit) in
          omega (arith, more, one, o, units))
        where
          dead : (s q : Bool) → (s && (q && false)) ≡ false
          dead true true = refl
          dead true false = refl
          dead false q = refl

          and_true : (s : Bool) → (s && true) ≡ s
          and_true true = refl
          and_true false = refl

  -- with all members, these are the keys
  pub IsCountedTo-end : (a : ℕ) (counts : List ℕ) → length members ≤ a → IsCountedTo n class at t a counts
      → IsGathered class t.class (key_at (grid n class) (Tri t.class t.left t.right)) counts
  IsCountedTo-end a counts end c = record {
    len = c.len ∙ sym size;
    inside = λ p l is.
        let low : p < n * n = omega (arith, l, size) in
        let some = some_size n p low in
        let back : p / n * n + p % n ≡ p = div-add-mod' p n in
        let u = row_below n p some low in
        let v = column_below n p some in
        ap (λ q. get_or counts q 0) (sym back)
        ∙ c.counted (p / n) (p % n) u v (ap (λ q. get_or class q 0) back ∙ is)
        ∙ count_by_points (is_side n class at t (p / n) (p % n) a) (λ z. (get_or class (p / n * n + z) 0 == t.left) && (get_or class (z * n + p % n) 0 == t.right)) n (λ z hz.
        ap (λ s. (get_or class (p / n * n + z) 0 == t.left) && s) (all z (p % n) hz v));
    outside = λ p l ne.
        let low : p < n * n = omega (arith, l, size) in
        let some = some_size n p low in
        let back : p / n * n + p % n ≡ p = div-add-mod' p n in
        ap (λ q. get_or counts q 0) (sym back) ∙ c.outside (p / n) (p % n) (row_below n p some low) (column_below n p some) (λ e. ne (ap (λ q. get_or class q 0) (sym back) ∙ e));
  }
    where
      all : (z v : ℕ) → z < n → v < n → ((get_or class (z * n + v) 0 == t.right) && nat_lt (at (z * n + v)) a) ≡ (get_or class (z * n + v) 0 == t.right)
      all z v hz hv =
          ⊎_elim
          (λ e.
          let lt : nat_lt (at (z * n + v)) a ≡ true = lt-ltb _ _ (omega (arith, m.listed (z * n + v) (low_at z v hz hv) e, end)) in
          (λ i. eq-eqb _ _ e i && lt i) ∙ sym (eq-eqb _ _ e))
          (λ ne. (λ i. ne_eqb _ _ ne i && nat_lt (at (z * n + v)) a) ∙ sym (ne_eqb _ _ ne))
          (cases_eq (get_or class (z * n + v) 0) t.right)
