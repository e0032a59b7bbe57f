-- The subscheme on a class is coherent: from two of its points, the triangles with a side in the set have their third point in the class.
use Rattle.std.proofs.Common.{◌≡◌, ◌==◌, ◌&&◌, ℕ, ◌<◌, ◌≤◌, Bool, true, length, get_or, count_by, ⊎_elim, sym, ap, ◌∙◌, arith}
use Rattle.std.specs.List.{position_or_len}
use Rattle.std.proofs.lemmas.Bool.{eqb-true, and_parts, and_from, cases_Bool}
use Rattle.pair_colours.specs.Colouring.{PairColouring, colour_at, points, triangles}
use Rattle.pair_colours.specs.Closure.{Coherent}
use Rattle.pair_colours.proofs.Closures.{Coherent-same}
use Rattle.pair_colours.proofs.Counts.{count_by_points, count_by-filter}
use Rattle.quotients.specs.Quotient.{class_of, Subscheme}
use Rattle.quotients.specs.Steps.{IsPicked}
use Rattle.quotients.specs.Law.{IsParted}
use Rattle.quotients.proofs.Points.{filtered_at, filtered_has, filtered_place, count_places}
use Rattle.quotients.proofs.Leasts.{bool_same}
use Rattle.quotients.proofs.Tellings.{part_exists}
use Rattle.pair_colours.proofs.Exists.{by_pairs}

pub member_at : (K : PairColouring) (S : ℕ → Bool) (x s : ℕ) → s < length (class_of K S x) → (get_or (class_of K S x) s 0 < K.size) × (S (colour_at K x (get_or (class_of K S x) s 0)) ≡ true)
member_at K S x s l = filtered_at (λ y. S (colour_at K x y)) K.size s l

pub some_member : (K : PairColouring) (S : ℕ → Bool) (x : ℕ) → IsParted K S → x < K.size → 1 ≤ length (class_of K S x)
some_member K S x p hx = let h = filtered_has (λ y. S (colour_at K x y)) K.size x hx (p.closed.reflexive x hx) in omega (arith, h.0)

module _ (K : PairColouring) (S : ℕ → Bool) (x : ℕ) (p : IsParted K S) (hx : x < K.size) (R : PairColouring) (r : IsPicked K (class_of K S x) R) where
  down : (s : ℕ) → s < R.size → s < length (class_of K S x)
  down s l = omega (arith, l, r.size)

  below : (s : ℕ) → s < R.size → get_or (class_of K S x) s 0 < K.size
  below s l = (member_at K S x s (down s l)).0

  -- two members with a third point: it is a member where the first side is in the set
  same_side : (s z i : ℕ) → (l : s < R.size) → z < K.size → colour_at K (get_or (class_of K S x) s 0) z ≡ i → S (colour_at K x z) ≡ S i
  same_side s z i l hz e =
      let m = member_at K S x s (down s l) in
      bool_same _ _
      (λ t. ap S (sym e) ∙ p.closed.transitive (get_or (class_of K S x) s 0) x z m.0 hx hz (p.closed.symmetric x (get_or (class_of K S x) s 0) hx m.0 m.1) t)
      (λ t. p.closed.transitive x (get_or (class_of K S x) s 0) z hx m.0 hz m.1 (ap S e ∙ t))

  part_triangles : (s t i j : ℕ) → s < R.size → t < R.size
      → triangles R s t i j ≡ count_by (λ z. S i && ((colour_at K (get_or (class_of K S x) s 0) z == i) && (colour_at K z (get_or (class_of K S x) t 0) == j))) (points K.size)
  part_triangles s t i j hs ht =
      let c = class_of K S x in
      let a = get_or c s 0 in
      let b = get_or c t 0 in
      let test : ℕ → Bool = λ z. (colour_at K a z == i) && (colour_at K z b == j) in
      count_by_points (λ w. (colour_at R s w == i) && (colour_at R w t == j)) (λ w. test (get_or c w 0)) R.size
      (λ w l. λ k. (r.is s w (down s hs) (down w l) k == i) && (r.is w t (down w l) (down t ht) k == j))
      ∙ ap (λ n. count_by (λ w. test (get_or c w 0)) (points n)) r.size
      ∙ count_places test c
      ∙ count_by-filter test (λ y. S (colour_at K x y)) (points K.size)
      ∙ count_by_points (λ z. S (colour_at K x z) && test z) (λ z. S i && test z) K.size
      (λ z hz. bool_same _ _
      (λ e. let w = and_parts _ _ e in let u = and_parts _ _ w.1 in and_from _ _ (sym (same_side s z i hs hz (eqb-true _ _ u.0)) ∙ w.0) w.1)
      (λ e. let w = and_parts _ _ e in let u = and_parts _ _ w.1 in and_from _ _ (same_side s z i hs hz (eqb-true _ _ u.0) ∙ w.0) w.1))

  part_is_coherent : Coherent R
  part_is_coherent = record {
    splits_diagonal = λ s a b hs ha hb e.
        let c = class_of K S x in
        let one : get_or c a 0 ≡ get_or c b 0 = p.coherent.splits_diagonal (get_or c s 0) (get_or c a 0) (get_or c b 0) (below s hs) (below a ha) (below b hb)
        (sym (r.is s s (down s hs) (down s hs)) ∙ e ∙ r.is a b (down a ha) (down b hb)) in
        sym (filtered_place (λ y. S (colour_at K x y)) K.size a (down a ha))
        ∙ ap (λ v. position_or_len (λ d. d == v) c) one
        ∙ filtered_place (λ y. S (colour_at K x y)) K.size b (down b hb);
    closed_under_transpose = λ s t a b hs ht ha hb e.
        let c = class_of K S x in
        r.is t s (down t ht) (down s hs)
        ∙ p.coherent.closed_under_transpose (get_or c s 0) (get_or c t 0) (get_or c a 0) (get_or c b 0) (below s hs) (below t ht) (below a ha) (below b hb)
        (sym (r.is s t (down s hs) (down t ht)) ∙ e ∙ r.is a b (down a ha) (down b hb))
        ∙ sym (r.is b a (down b hb) (down a ha));
    constant_triangles = λ s t a b hs ht ha hb e i j.
        let c = class_of K S x in
        let whole = p.coherent.constant_triangles (get_or c s 0) (get_or c t 0) (get_or c a 0) (get_or c b 0) (below s hs) (below t ht) (below a ha) (below b hb)
        (sym (r.is s t (down s hs) (down t ht)) ∙ e ∙ r.is a b (down a ha) (down b hb)) i j in
        part_triangles s t i j hs ht
        ∙ ⊎_elim
        (λ yes. ap (λ o. count_by (λ z. o && ((colour_at K (get_or c s 0) z == i) && (colour_at K z (get_or c t 0) == j))) (points K.size)) yes
        ∙ whole
        ∙ sym (ap (λ o. count_by (λ z. o && ((colour_at K (get_or c a 0) z == i) && (colour_at K z (get_or c b 0) == j))) (points K.size)) yes))
        (λ none. ap (λ o. count_by (λ z. o && ((colour_at K (get_or c s 0) z == i) && (colour_at K z (get_or c t 0) == j))) (points K.size)) none
        ∙ sym (ap (λ o. count_by (λ z. o && ((colour_at K (get_or c a 0) z == i) && (colour_at K z (get_or c b 0) == j))) (points K.size)) none))
        (cases_Bool (S i))
        ∙ sym (part_triangles a b i j ha hb);
  }

  subscheme_from : (L : PairColouring) → Subscheme K S x L → Coherent L
  subscheme_from L l =
      Coherent-same R L r.colouring part_is_coherent
      (record {
        sizes = r.size ∙ sym l.size;
        classes = λ s t a b hs ht ha hb e.
            let to : (z : ℕ) → z < R.size → z < L.size = λ z k. omega (arith, k, r.size, l.size) in
            (l.alike s t a b (to s hs) (to t ht) (to a ha) (to b hb)).1 (sym (r.is s t (down s hs) (down t ht)) ∙ e ∙ r.is a b (down a ha) (down b hb));
      })
      (record {
        sizes = l.size ∙ sym r.size;
        classes = λ s t a b hs ht ha hb e.
            let to : (z : ℕ) → z < L.size → z < length (class_of K S x) = λ z k. omega (arith, k, l.size) in
            r.is s t (to s hs) (to t ht) ∙ (l.alike s t a b hs ht ha hb).0 e ∙ sym (r.is a b (to a ha) (to b hb));
      })

pub subscheme_is_coherent : (K : PairColouring) (S : ℕ → Bool) (x : ℕ) (L : PairColouring) → IsParted K S → x < K.size → Subscheme K S x L → Coherent L
subscheme_is_coherent K S x L p hx l =
    let c = class_of K S x in
    let R = by_pairs (length c) (λ s t. colour_at K (get_or c s 0) (get_or c t 0)) in
    subscheme_from K S x p hx R (part_exists K c (some_member K S x p hx)) L l
