-- Keys gathered pair by pair.
use Rattle.std.proofs.Common.{◌≡◌, ◌≢◌, ◌==◌, ◌&&◌, ℕ, ◌+◌, ◌*◌, ◌/◌, ◌%◌, ◌<◌, ◌≤◌, List, length, get_or, set, count_by, ⊎_elim, sym, ap, subst, ◌∙◌, arith, zero, suc}
use Rattle.std.proofs.lemmas.Bool.{cases_eq}
use Rattle.std.proofs.lemmas.List.{length-set, get_or-set_same, get_or-set_other}
use Rattle.std.proofs.lemmas.Nat.{div-add-mod', same_from_place}
use Rattle.pair_colours.specs.Colouring.{points, triangles}
use Rattle.pair_colours.proofs.Counts.{count_by_points}
use Rattle.pair_colours.proofs.Places.{row_below, column_below, place_below}
use Rattle.split_cells.specs.Segments.{IsMembers}
use Rattle.split_cells.specs.Grids.{IsTurned, grid, turned_place}
use Rattle.split_cells.specs.Keys.{IsGathered, IsBlank}
use Rattle.wl_round.proofs.OneWrite.{one_write}

-- the first a members of class k have their keys as counts
pub record IsGatheredTo (class : List ℕ) (k : ℕ) (at : ℕ → ℕ) (key : ℕ → ℕ) (a : ℕ) (counts : List ℕ) : Type 0 where
  pub len : length counts ≡ length class
  pub inside : (p : ℕ) → p < length class → get_or class p 0 ≡ k → at p < a → get_or counts p 0 ≡ key p
  pub later : (p : ℕ) → p < length class → get_or class p 0 ≡ k → a ≤ at p → get_or counts p 0 ≡ 0
  pub outside : (p : ℕ) → p < length class → get_or class p 0 ≢ k → get_or counts p 0 ≡ 0

module _ {class : List ℕ} {k : ℕ} {at : ℕ → ℕ} {members : List ℕ} (m : IsMembers class k at members) (key : ℕ → ℕ) where
  pub IsGatheredTo-start : (counts : List ℕ) → IsBlank class counts → IsGatheredTo class k at key 0 counts
  IsGatheredTo-start counts b = record {
    len = b.len;
    inside = λ p l e h. absurd (omega (arith, h));
    later = λ p l e h. b.zero_everywhere p;
    outside = λ p l n. b.zero_everywhere p;
  }

  -- the next one is not counted yet
  pub IsGatheredTo-fresh : (a : ℕ) (counts : List ℕ) → a < length members → IsGatheredTo class k at key a counts
      → (get_or members a 0 < length counts) × (get_or counts (get_or members a 0) 0 ≡ 0)
  IsGatheredTo-fresh a counts l g =
      (omega (arith, m.inside a l, g.len), g.later (get_or members a 0) (m.inside a l) (m.member a l) (omega (arith, m.back a l)))

  pub IsGatheredTo-more : (a v : ℕ) (counts new : List ℕ) → a < length members → v ≡ key (get_or members a 0) → new ≡ set counts (get_or members a 0) v
      → IsGatheredTo class k at key a counts → IsGatheredTo class k at key (a + 1) new
  IsGatheredTo-more a v counts new low val written g =
      subst (IsGatheredTo class k at key (a + 1)) (sym written) (record {
        len = length-set counts p v ∙ g.len;
        inside = λ q l c b. one_write (λ z. z ≡ key q) counts p v q in_counts
            (λ e. val ∙ ap key (sym e))
            (λ n. g.inside q l c (before q l c n b));
        later = λ q l c b. one_write (λ z. z ≡ 0) counts p v q in_counts
            (λ e. absurd (omega (arith, b, ap at e, m.back a low)))
            (λ n. g.later q l c (omega (arith, b)));
        outside = λ q l n. one_write (λ z. z ≡ 0) counts p v q in_counts
            (λ e. absurd (n (ap (λ z. get_or class z 0) e ∙ m.member a low)))
            (λ _. g.outside q l n);
      })
    where
      p : ℕ
      p = get_or members a 0

      in_counts : p < length counts
      in_counts = omega (arith, m.inside a low, g.len)

      before : (q : ℕ) → q < length class → get_or class q 0 ≡ k → q ≢ p → at q < a + 1 → at q < a
      before q l c n b =
          ⊎_elim
          (λ e. absurd (n (sym (m.is q l c) ∙ ap (λ z. get_or members z 0) e)))
          (λ (ne : at q ≢ a). omega (arith, b, ne))
          (cases_eq (at q) a)

  pub IsGatheredTo-end : (a : ℕ) (counts : List ℕ) → length members ≤ a → IsGatheredTo class k at key a counts → IsGathered class k key counts
  IsGatheredTo-end a counts e g = record {
    len = g.len;
    inside = λ p l is. g.inside p l is (omega (arith, m.listed p l is, e));
    outside = g.outside;
  }

-- a pair has a point
pub some_size : (n p : ℕ) → p < n * n → 0 < n
some_size zero p l = absurd (omega (arith, l))
some_size (suc n) p l = omega arith

-- what stands at a place of the transposed matrix
pub turned_at : (n : ℕ) (class turned : List ℕ) → IsTurned n class turned → 0 < n → (p : ℕ) → p < n * n → get_or turned p 0 ≡ get_or class (turned_place n p) 0
turned_at n class turned t some p l =
    ap (λ q. get_or turned q 0) (sym (div-add-mod' p n)) ∙ t.is (p / n) (p % n) (row_below n p some l) (column_below n p some)

-- the triangles of a pair, by a row and a column
pub triangles_by_rows : (n : ℕ) (class turned xs ys : List ℕ) (p i j m : ℕ) → IsTurned n class turned → 0 < n → p < n * n → length xs ≡ n
    → ((z : ℕ) → z < n → get_or xs z 0 ≡ get_or class (p / n * n + z) 0) → ((z : ℕ) → z < n → get_or ys z 0 ≡ get_or turned (p % n * n + z) 0)
    → m ≡ count_by (λ z. (get_or xs z 0 == i) && (get_or ys z 0 == j)) (points (length xs))
    → m ≡ triangles (grid n class) (p / n) (p % n) i j
triangles_by_rows n class turned xs ys p i j m t some l len x y e =
    e ∙ ap (λ k. count_by (λ z. (get_or xs z 0 == i) && (get_or ys z 0 == j)) (points k)) len
    ∙ count_by_points (λ z. (get_or xs z 0 == i) && (get_or ys z 0 == j)) (λ z. (get_or class (p / n * n + z) 0 == i) && (get_or class (z * n + p % n) 0 == j)) n
    (λ z h.
    let a = x z h in
    let b = y z h ∙ t.is (p % n) z (column_below n p some) h in
    λ r. (a r == i) && (b r == j))

-- a write of a pair's class, and of it at the transposed pair
pub IsTurned-write : (n : ℕ) (class turned : List ℕ) (p new : ℕ) → IsTurned n class turned → length class ≡ n * n → p < n * n → IsTurned n (set class p new) (set turned (turned_place n p) new)
IsTurned-write n class turned p new t l inside = record {
  len = length-set turned (turned_place n p) new ∙ t.len;
  is = λ x y hx hy. ⊎_elim
      (λ e.
      let q = same_from_place x y (p % n) (p / n) n hy row e in
      let at : y * n + x ≡ p = (λ i. q.1 i * n + q.0 i) ∙ div-add-mod' p n in
      ap (λ z. get_or (set turned (turned_place n p) new) z 0) e ∙ get_or-set_same turned (turned_place n p) new 0 (omega (arith, t.len, place_below n (p % n) (p / n) column row))
      ∙ sym (get_or-set_same class p new 0 (omega (arith, inside, l))) ∙ ap (λ z. get_or (set class p new) z 0) (sym at))
      (λ ne.
      get_or-set_other turned (turned_place n p) (x * n + y) new 0 ne ∙ t.is x y hx hy
      ∙ sym (get_or-set_other class p (y * n + x) new 0 (λ e.
      let q = same_from_place y x (p / n) (p % n) n hx column (e ∙ sym (div-add-mod' p n)) in
      ne (λ i. q.1 i * n + q.0 i))))
      (cases_eq (x * n + y) (turned_place n p));
}
  where
    some : 0 < n
    some = some_size n p inside

    row : p / n < n
    row = row_below n p some inside

    column : p % n < n
    column = column_below n p some

pub turned_place_in : (n p : ℕ) → p < n * n → turned_place n p < n * n
turned_place_in n p l = let some = some_size n p l in place_below n (p % n) (p / n) (column_below n p some) (row_below n p some l)
