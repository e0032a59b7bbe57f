-- Pairs that are alike have one hash.
use Rattle.std.proofs.Common.{◌≡◌, ◌==◌, ◌↔◌, ℕ, ◌+◌, ◌*◌, ◌/◌, ◌%◌, ◌^◌, ◌<◌, ◌≤◌, List, [], ◌∷◌, length, get_or, map, sum_by, ⊎_elim, refl, sym, ap, subst, ◌∙◌, arith}
use Rattle.std.proofs.lemmas.Bool.{cases_eq, eq-eqb, ne_eqb}
use Rattle.std.proofs.lemmas.Nat.{div-add-mod'}
use Rattle.std.proofs.lemmas.List.Sums.{sum_by-cons}
use Rattle.std.proofs.lemmas.List.Sorted.{sum_by-IsPermutation}
use Rattle.pair_colours.specs.Colouring.{PairColouring, IsColouring, colour_at, points}
use Rattle.pair_colours.specs.Rounds.{Alike}
use Rattle.pair_colours.proofs.Counts.{sum_by_points_agree}
use Rattle.pair_colours.proofs.Places.{place_below, row_below, column_below}
use Rattle.pair_colours.proofs.Rounds.{sides, IsPermutation-sides}
use Rattle.wl_round.specs.Sides.{IsTurned}
use Rattle.wl_round.specs.Hashes.{HasWords, AreWords, KeepsTogether, dot, hash_at, hash_from}

sum_by-map : {X Y : Type 0} (f : Y → ℕ) (g : X → Y) (xs : List X) → sum_by f (map g xs) ≡ sum_by (λ x. f (g x)) xs
sum_by-map f g [] = refl
sum_by-map f g (x ∷ xs) = omega (arith, sum_by-cons f (g x) (map g xs), sum_by-cons (λ y. f (g y)) x xs, sum_by-map f g xs)

-- a sum over the sides of the triangles on a pair
pub sum_by-sides : (P : PairColouring) (f : ℕ × ℕ → ℕ) (x y u v : ℕ) → Alike P x y u v
    → sum_by (λ z. f (colour_at P x z, colour_at P z y)) (points P.size) ≡ sum_by (λ z. f (colour_at P u z, colour_at P z v)) (points P.size)
sum_by-sides P f x y u v a =
    sym (sum_by-map f (λ z. (colour_at P x z, colour_at P z y)) (points P.size))
    ∙ sym (sum_by-IsPermutation f (sides P x y) (sides P u v) (IsPermutation-sides P x y u v a.counts))
    ∙ sum_by-map f (λ z. (colour_at P u z, colour_at P z v)) (points P.size)

-- on the diagonal or off it
diagonal_same : (x y u v : ℕ) → (x ≡ y) ↔ (u ≡ v) → (x == y) ≡ (u == v)
diagonal_same x y u v d =
    ⊎_elim (λ e. eq-eqb x y e ∙ sym (eq-eqb u v (d.0 e))) (λ ne. ne_eqb x y ne ∙ sym (ne_eqb u v (λ e. ne (d.1 e)))) (cases_eq x y)

module _ (P : PairColouring) (lefts rights turned : List ℕ) (w : AreWords P lefts rights turned) where
  abbrev n : ℕ
  n = P.size

  -- the sum over the words is one over the colours
  by_colours : (x y : ℕ) → x < n → y < n → sum_by (λ z. get_or lefts (x * n + z) 0 * get_or rights (y * n + z) 0) (points n)
      ≡ sum_by (λ z. get_or w.left (colour_at P x z) 0 * get_or w.right (colour_at P z y) 0) (points n)
  by_colours x y hx hy =
      sum_by_points_agree (λ z. get_or lefts (x * n + z) 0 * get_or rights (y * n + z) 0) (λ z. get_or w.left (colour_at P x z) 0 * get_or w.right (colour_at P z y) 0) n
      (λ z hz. λ i. w.left_is x z hx hz i * w.right_is y z hy hz i)

  pub hash_same : (x y u v : ℕ) → x < n → y < n → u < n → v < n → Alike P x y u v → hash_at n lefts rights turned x y ≡ hash_at n lefts rights turned u v
  hash_same x y u v hx hy hu hv a =
      let sums = by_colours x y hx hy ∙ sum_by-sides P (λ c. get_or w.left c.0 0 * get_or w.right c.1 0) x y u v a ∙ sym (by_colours u v hu hv) in
      let over = w.turned_is x y hx hy ∙ ap (λ c. get_or w.over c 0) a.turned ∙ sym (w.turned_is u v hu hv) in
      λ i. hash_from (sums i % 2 ^ 64) (over i) (diagonal_same x y u v a.diagonal i)

  pub KeepsTogether-from : (H : PairColouring) → H.size ≡ n → ((x y : ℕ) → x < n → y < n → colour_at H x y ≡ hash_at n lefts rights turned x y) → KeepsTogether P H
  KeepsTogether-from H e at = record {
    sizes = e;
    together = λ x y u v hx hy hu hv a. at x y hx hy ∙ hash_same x y u v hx hy hu hv a ∙ sym (at u v hu hv);
  }

-- the words of the colours, place by place
pub AreWords-from : (P : PairColouring) (columns left right over lefts rights turned : List ℕ) → length P.colours ≡ P.size * P.size → IsTurned P.size P.colours columns
    → HasWords P.colours left lefts → HasWords columns right rights → HasWords columns over turned → AreWords P lefts rights turned
AreWords-from P columns left right over lefts rights turned size t l r o = record {
  left = left;
  right = right;
  over = over;
  lefts_len = l.len ∙ size;
  rights_len = r.len ∙ t.len;
  turned_len = o.len ∙ t.len;
  left_is = λ x z hx hz. l.is (x * P.size + z) (omega (arith, place_below P.size x z hx hz, size));
  right_is = λ y z hy hz. r.is (y * P.size + z) (omega (arith, place_below P.size y z hy hz, t.len)) ∙ ap (λ c. get_or right c 0) (t.is y z hy hz);
  turned_is = λ x y hx hy. o.is (x * P.size + y) (omega (arith, place_below P.size x y hx hy, t.len)) ∙ ap (λ c. get_or over c 0) (t.is x y hx hy);
}

-- each entry of the transposed matrix is one of the matrix
pub turned_below : (P : PairColouring) (size : ℕ) (class columns numbers words : List ℕ) → IsColouring P → size ≡ P.size → class ≡ P.colours → IsTurned size class columns → numbers ≡ columns → length words ≡ size * size
    → ((p : ℕ) → p < length P.colours → get_or P.colours p 0 < length P.colours) → (p : ℕ) → p < length numbers → get_or numbers p 0 < length words
turned_below P size class columns numbers words is s c t f w h p l =
    let some : 1 ≤ size = omega (arith, s, is.has_points) in
    let all : length P.colours ≡ size * size = is.has_pairs ∙ ap (λ m. m * m) (sym s) in
    let inside : p < size * size = omega (arith, l, ap length f, t.len) in
    let x = row_below size p some inside in
    let y = column_below size p some in
    let at : get_or numbers p 0 ≡ get_or P.colours (p % size * size + p / size) 0 =
    ap (λ xs. get_or xs p 0) f ∙ ap (λ q. get_or columns q 0) (sym (div-add-mod' p size)) ∙ t.is (p / size) (p % size) x y ∙ ap (λ xs. get_or xs (p % size * size + p / size) 0) c in
    omega (arith, at, h (p % size * size + p / size) (omega (arith, all, place_below size (p % size) (p / size) y x)), all, w)

-- the words of a colouring from its parts
pub AreWords-parts : (P : PairColouring) (size : ℕ) (class numbers columns right_numbers over_numbers left right over lefts rights turned : List ℕ) → IsColouring P → size ≡ P.size → class ≡ P.colours → numbers ≡ P.colours
    → right_numbers ≡ columns → over_numbers ≡ columns → IsTurned size class columns → HasWords numbers left lefts → HasWords right_numbers right rights → HasWords over_numbers over turned → AreWords P lefts rights turned
AreWords-parts P size class numbers columns right_numbers over_numbers left right over lefts rights turned is s c k f g t l r o =
    AreWords-from P columns left right over lefts rights turned is.has_pairs (subst (λ n. IsTurned n P.colours columns) s (subst (λ xs. IsTurned size xs columns) c t))
    (subst (λ xs. HasWords xs left lefts) k l) (subst (λ xs. HasWords xs right rights) f r) (subst (λ xs. HasWords xs over turned) g o)

-- the product of two rows
pub dot_of_rows : (n x y : ℕ) (lefts rights left right : List ℕ) → length left ≡ n → ((z : ℕ) → z < n → get_or left z 0 ≡ get_or lefts (x * n + z) 0) → ((z : ℕ) → z < n → get_or right z 0 ≡ get_or rights (y * n + z) 0)
    → dot left right ≡ sum_by (λ z. get_or lefts (x * n + z) 0 * get_or rights (y * n + z) 0) (points n)
dot_of_rows n x y lefts rights left right len l r =
    ap (λ m. sum_by (λ z. get_or left z 0 * get_or right z 0) (points m)) len
    ∙ sum_by_points_agree (λ z. get_or left z 0 * get_or right z 0) (λ z. get_or lefts (x * n + z) 0 * get_or rights (y * n + z) 0) n (λ z hz. λ i. l z hz i * r z hz i)
