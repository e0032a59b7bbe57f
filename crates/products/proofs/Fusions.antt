-- Colours in A and colours in B joined to one colour, and the coherence of what comes of it.
use Rattle.std.proofs.Common.{◌≡◌, ◌==◌, ◌&&◌, ℕ, ◌+◌, ◌*◌, ◌/◌, ◌%◌, ◌<◌, ◌≤◌, ◌⊎◌, ⊎_elim, sum_by, refl, sym, ap, subst, ◌∙◌}
use Rattle.std.proofs.lemmas.Nat.{div_below, mod_below, div-add-mod'}
use Rattle.pair_colours.specs.Colouring.{PairColouring, colour_at, points, triangles}
use Rattle.pair_colours.specs.Closure.{Coherent}
use Rattle.pair_colours.proofs.Counts.{unit_of, sum_by_points_agree}
use Rattle.pair_colours.proofs.Exists.{by_pairs, colour_at-by_pairs}
use Rattle.pair_colours.specs.Fibres.{HasOneFibre}
use Rattle.products.proofs.Sums.{sum_sides, sum_grid}

-- the colour b of B, off the diagonal, is joined with every colour of A to one and the same, and so is each other that is not on the diagonal alone
pub record Loose (A B : PairColouring) (G : ℕ → ℕ → ℕ) (b : ℕ) : Type 0 where
  pub fibres : HasOneFibre A
  pub off : (u : ℕ) → u < B.size → colour_at B u u ≡ b → ⊥
  pub free : (a c : ℕ) → G a b ≡ G c b
  pub others : (d : ℕ) → ((a c : ℕ) → G a d ≡ G c d) ⊎ ((u v : ℕ) → u < B.size → v < B.size → colour_at B u v ≡ d → u ≡ v)

-- what G joins is told apart again, but for the colour of A beside a loose colour of B
pub record IsJoining (A B : PairColouring) (G : ℕ → ℕ → ℕ) : Type 0 where
  pub tells : (a b c d : ℕ) → G a b ≡ G c d → ((a ≡ c) × (b ≡ d)) ⊎ (Loose A B G b × (b ≡ d))

-- f gives each pair of the product its joined colours
pub record IsJoined (A B : PairColouring) (G f : ℕ → ℕ → ℕ) : Type 0 where
  pub has_points : 1 ≤ B.size
  pub is : (p q : ℕ) → p < A.size * B.size → q < A.size * B.size
      → f p q ≡ G (colour_at A (p / B.size) (q / B.size)) (colour_at B (p % B.size) (q % B.size))

module _ (A B : PairColouring) (G f : ℕ → ℕ → ℕ) (ha : Coherent A) (hb : Coherent B) (g : IsJoining A B G) (j : IsJoined A B G f) where
  left_below : (p : ℕ) → p < A.size * B.size → p / B.size < A.size
  left_below p l = div_below p B.size A.size j.has_points l

  right_below : (p : ℕ) → p % B.size < B.size
  right_below p = mod_below p B.size j.has_points

  at : (p q : ℕ) → p < A.size * B.size → q < A.size * B.size
      → colour_at (by_pairs (A.size * B.size) f) p q ≡ G (colour_at A (p / B.size) (q / B.size)) (colour_at B (p % B.size) (q % B.size))
  at p q hp hq = colour_at-by_pairs (A.size * B.size) f p q hp hq ∙ j.is p q hp hq

  -- how many points z of A make triangles of the colours i and k on (x, y), beside the colours b and c of B
  abbrev beside : ℕ → ℕ → ℕ → ℕ → ℕ → ℕ → ℕ
  beside i k x y b c = sum_by (λ z. unit_of ((G (colour_at A x z) b == i) && (G (colour_at A z y) c == k))) (points A.size)

  triangles_at : (p q i k : ℕ) → p < A.size * B.size → q < A.size * B.size
      → triangles (by_pairs (A.size * B.size) f) p q i k
      ≡ sum_by (λ w. beside i k (p / B.size) (q / B.size) (colour_at B (p % B.size) w) (colour_at B w (q % B.size))) (points B.size)
  triangles_at p q i k hp hq =
      let one : ℕ → ℕ → ℕ = λ z w. unit_of ((G (colour_at A (p / B.size) z) (colour_at B (p % B.size) w) == i) && (G (colour_at A z (q / B.size)) (colour_at B w (q % B.size)) == k)) in
      sum_by_points_agree (λ z. unit_of ((colour_at (by_pairs (A.size * B.size) f) p z == i) && (colour_at (by_pairs (A.size * B.size) f) z q == k))) (λ z. one (z / B.size) (z % B.size)) (A.size * B.size)
      (λ z l. λ h. unit_of ((at p z hp l h == i) && (at z q l hq h == k)))
      ∙ sum_grid one A.size B.size

  -- colours of A that are alike on both pairs
  beside_alike : (i k x y s t : ℕ) → x < A.size → y < A.size → s < A.size → t < A.size → colour_at A x y ≡ colour_at A s t
      → (b c : ℕ) → beside i k x y b c ≡ beside i k s t b c
  beside_alike i k x y s t hx hy hs ht e b c = sum_sides A ha (λ a d. unit_of ((G a b == i) && (G d c == k))) x y s t hx hy hs ht e

  -- beside a loose colour of B any two pairs of A are alike
  beside_first : (i k x y s t : ℕ) → x < A.size → y < A.size → s < A.size → t < A.size → HasOneFibre A
      → (b c : ℕ) → ((a d : ℕ) → G a b ≡ G d b) → beside i k x y b c ≡ beside i k s t b c
  beside_first i k x y s t hx hy hs ht h b c free =
      let fixed : (x y : ℕ) → beside i k x y b c ≡ sum_by (λ z. unit_of ((G 0 b == i) && (G (colour_at A z y) c == k))) (points A.size) = λ x y.
      sum_by_points_agree (λ z. unit_of ((G (colour_at A x z) b == i) && (G (colour_at A z y) c == k))) (λ z. unit_of ((G 0 b == i) && (G (colour_at A z y) c == k))) A.size
      (λ z l. λ r. unit_of ((free (colour_at A x z) 0 r == i) && (G (colour_at A z y) c == k))) in
      fixed x y
      ∙ sum_sides A ha (λ a d. unit_of ((G 0 b == i) && (G d c == k))) y y t t hy hy ht ht (h.one_fibre y t hy ht)
      ∙ sym (fixed s t)

  beside_second : (i k x y s t : ℕ) → x < A.size → y < A.size → s < A.size → t < A.size → HasOneFibre A
      → (b c : ℕ) → ((a d : ℕ) → G a c ≡ G d c) → beside i k x y b c ≡ beside i k s t b c
  beside_second i k x y s t hx hy hs ht h b c free =
      let fixed : (x y : ℕ) → beside i k x y b c ≡ sum_by (λ z. unit_of ((G (colour_at A x z) b == i) && (G 0 c == k))) (points A.size) = λ x y.
      sum_by_points_agree (λ z. unit_of ((G (colour_at A x z) b == i) && (G (colour_at A z y) c == k))) (λ z. unit_of ((G (colour_at A x z) b == i) && (G 0 c == k))) A.size
      (λ z l. λ r. unit_of ((G (colour_at A x z) b == i) && (free (colour_at A z y) 0 r == k))) in
      fixed x y
      ∙ sum_sides A ha (λ a d. unit_of ((G a b == i) && (G 0 c == k))) x x s s hx hx hs hs (h.one_fibre x s hx hs)
      ∙ sym (fixed s t)

  beside_loose : (i k x y s t u v w : ℕ) → x < A.size → y < A.size → s < A.size → t < A.size → u < B.size → v < B.size → w < B.size
      → Loose A B G (colour_at B u v) → beside i k x y (colour_at B u w) (colour_at B w v) ≡ beside i k s t (colour_at B u w) (colour_at B w v)
  beside_loose i k x y s t u v w hx hy hs ht hu hv hw h =
      ⊎_elim
      (λ free. beside_first i k x y s t hx hy hs ht h.fibres (colour_at B u w) (colour_at B w v) free)
      (λ first. ⊎_elim
      (λ free. beside_second i k x y s t hx hy hs ht h.fibres (colour_at B u w) (colour_at B w v) free)
      (λ second.
      let e : u ≡ v = first u w hu hw refl ∙ second w v hw hv refl in
      absurd (h.off u hu (ap (colour_at B u) e)))
      (h.others (colour_at B w v)))
      (h.others (colour_at B u w))

  same_triangles : (p q r s i k : ℕ) → p < A.size * B.size → q < A.size * B.size → r < A.size * B.size → s < A.size * B.size
      → colour_at (by_pairs (A.size * B.size) f) p q ≡ colour_at (by_pairs (A.size * B.size) f) r s
      → triangles (by_pairs (A.size * B.size) f) p q i k ≡ triangles (by_pairs (A.size * B.size) f) r s i k
  same_triangles p q r s i k hp hq hr hs e =
      let shift : colour_at B (p % B.size) (q % B.size) ≡ colour_at B (r % B.size) (s % B.size)
      → sum_by (λ w. beside i k (p / B.size) (q / B.size) (colour_at B (p % B.size) w) (colour_at B w (q % B.size))) (points B.size)
      ≡ sum_by (λ w. beside i k (p / B.size) (q / B.size) (colour_at B (r % B.size) w) (colour_at B w (s % B.size))) (points B.size) = λ b.
      sum_sides B hb (beside i k (p / B.size) (q / B.size)) (p % B.size) (q % B.size) (r % B.size) (s % B.size) (right_below p) (right_below q) (right_below r) (right_below s) b in
      triangles_at p q i k hp hq
      ∙ ⊎_elim
      (λ both. shift both.1 ∙ sum_by_points_agree _ _ B.size
      (λ w l. beside_alike i k (p / B.size) (q / B.size) (r / B.size) (s / B.size) (left_below p hp) (left_below q hq) (left_below r hr) (left_below s hs) both.0 (colour_at B (r % B.size) w) (colour_at B w (s % B.size))))
      (λ loose. shift loose.1 ∙ sum_by_points_agree _ _ B.size
      (λ w l. beside_loose i k (p / B.size) (q / B.size) (r / B.size) (s / B.size) (r % B.size) (s % B.size) w (left_below p hp) (left_below q hq) (left_below r hr) (left_below s hs) (right_below r) (right_below s) l
      (subst (Loose A B G) loose.1 loose.0)))
      (g.tells _ _ _ _ (sym (at p q hp hq) ∙ e ∙ at r s hr hs))
      ∙ sym (triangles_at r s i k hr hs)

  pub joined_is_coherent : Coherent (by_pairs (A.size * B.size) f)
  joined_is_coherent = record {
    splits_diagonal = λ x u v hx hu hv e.
        ⊎_elim
        (λ both.
        let l : u / B.size ≡ v / B.size = ha.splits_diagonal (x / B.size) (u / B.size) (v / B.size) (left_below x hx) (left_below u hu) (left_below v hv) both.0 in
        let r : u % B.size ≡ v % B.size = hb.splits_diagonal (x % B.size) (u % B.size) (v % B.size) (right_below x) (right_below u) (right_below v) both.1 in
        sym (div-add-mod' u B.size) ∙ (λ i. l i * B.size + r i) ∙ div-add-mod' v B.size)
        (λ loose. absurd (loose.0.off (x % B.size) (right_below x) refl))
        (g.tells _ _ _ _ (sym (at x x hx hx) ∙ e ∙ at u v hu hv));
    closed_under_transpose = λ x y u v hx hy hu hv e.
        let right : colour_at B (x % B.size) (y % B.size) ≡ colour_at B (u % B.size) (v % B.size) → colour_at B (y % B.size) (x % B.size) ≡ colour_at B (v % B.size) (u % B.size) = λ b.
        hb.closed_under_transpose (x % B.size) (y % B.size) (u % B.size) (v % B.size) (right_below x) (right_below y) (right_below u) (right_below v) b in
        at y x hy hx
        ∙ ⊎_elim
        (λ both.
        let left = ha.closed_under_transpose (x / B.size) (y / B.size) (u / B.size) (v / B.size) (left_below x hx) (left_below y hy) (left_below u hu) (left_below v hv) both.0 in
        λ i. G (left i) (right both.1 i))
        (λ loose.
        ⊎_elim
        (λ free. free _ (colour_at A (v / B.size) (u / B.size)) ∙ ap (G (colour_at A (v / B.size) (u / B.size))) (right loose.1))
        (λ diagonal.
        let d : y % B.size ≡ x % B.size = diagonal (y % B.size) (x % B.size) (right_below y) (right_below x) refl in
        absurd (loose.0.off (x % B.size) (right_below x) (ap (colour_at B (x % B.size)) (sym d))))
        (loose.0.others (colour_at B (y % B.size) (x % B.size))))
        (g.tells _ _ _ _ (sym (at x y hx hy) ∙ e ∙ at u v hu hv))
        ∙ sym (at v u hv hu);
    constant_triangles = λ x y u v hx hy hu hv e i k. same_triangles x y u v i k hx hy hu hv e;
  }
