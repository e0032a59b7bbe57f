use Rattle.std.proofs.Common.{◌≡◌, ◌==◌, ◌&&◌, ℕ, ◌<◌, Bool, true, cond, List, map, count_by, refl, sym, ap, ◌∙◌, arith}
use Rattle.std.specs.List.Sorted.{IsPermutation}
use Rattle.std.proofs.lemmas.Bool.{eqb-true, eq-eqb, and_parts, and_from}
use Rattle.std.proofs.lemmas.List.Sorted.{sum_by-IsPermutation}
use Rattle.pair_colours.specs.Colouring.{PairColouring, IsColouring, Refines, colour_at, points, triangles}
use Rattle.pair_colours.specs.Closure.{Coherent, IsClosure}
use Rattle.pair_colours.specs.Rounds.{Alike, IsRound}
use Rattle.pair_colours.proofs.Counts.{count_by-map, count_by_points, IsPermutation-from_counts}
use Rattle.pair_colours.proofs.Places.{over, over_at, Refines-refl}

-- two pairs of numbers are one
abbrev pub same_pair : ℕ × ℕ → ℕ × ℕ → Bool
same_pair a b = (b.0 == a.0) && (b.1 == a.1)

pub same_pair_tells : (a b : ℕ × ℕ) → same_pair a b ≡ true → a ≡ b
same_pair_tells a b h =
    let p = and_parts (b.0 == a.0) (b.1 == a.1) h in
    let e0 : a.0 ≡ b.0 = sym (eqb-true b.0 a.0 p.0) in
    let e1 : a.1 ≡ b.1 = sym (eqb-true b.1 a.1 p.1) in
    λ i. (e0 i, e1 i)

pub same_pair-refl : (a : ℕ × ℕ) → same_pair a a ≡ true
same_pair-refl a = and_from (a.0 == a.0) (a.1 == a.1) (eq-eqb a.0 a.0 refl) (eq-eqb a.1 a.1 refl)

-- the colours of the two other sides of the triangles on a pair
abbrev pub sides : PairColouring → ℕ → ℕ → List (ℕ × ℕ)
sides Q x y = map (λ z. (colour_at Q x z, colour_at Q z y)) (points Q.size)

-- with equally many triangles of each two colours, the sides are the same in another order
pub IsPermutation-sides : (Q : PairColouring) (x y u v : ℕ) → ((i j : ℕ) → triangles Q x y i j ≡ triangles Q u v i j) → IsPermutation (sides Q x y) (sides Q u v)
IsPermutation-sides Q x y u v h =
    IsPermutation-from_counts same_pair same_pair_tells same_pair-refl (sides Q x y) (sides Q u v)
    (λ w. count_by-map (same_pair w) (λ z. (colour_at Q x z, colour_at Q z y)) (points Q.size)
    ∙ h w.0 w.1
    ∙ sym (count_by-map (same_pair w) (λ z. (colour_at Q u z, colour_at Q z v)) (points Q.size)))

-- the triangles of a coarser colouring are counted on the sides of the finer one
abbrev pub sorts : PairColouring → PairColouring → ℕ → ℕ → ℕ × ℕ → Bool
sorts Q P i j w = (over Q P w.0 == i) && (over Q P w.1 == j)

pub triangles-over : (Q P : PairColouring) → IsColouring Q → Refines Q P → (x y i j : ℕ) → x < Q.size → y < Q.size
    → triangles P x y i j ≡ count_by (sorts Q P i j) (sides Q x y)
triangles-over Q P q r x y i j hx hy =
    let here : triangles P x y i j ≡ count_by (λ z. (colour_at P x z == i) && (colour_at P z y == j)) (points Q.size) =
    ap (λ n. count_by (λ z. (colour_at P x z == i) && (colour_at P z y == j)) (points n)) (sym r.sizes) in
    let there = count_by_points (λ z. (colour_at P x z == i) && (colour_at P z y == j)) (λ z. sorts Q P i j (colour_at Q x z, colour_at Q z y)) Q.size
    (λ z l k. (sym (over_at Q P q r x z hx l) k == i) && (sym (over_at Q P q r z y l hy) k == j)) in
    here ∙ there ∙ sym (count_by-map (sorts Q P i j) (λ z. (colour_at Q x z, colour_at Q z y)) (points Q.size))

-- a coherent colouring that refines P parts no two pairs of one of its classes in the round
pub alike_in : (Q P : PairColouring) → IsColouring Q → Coherent Q → Refines Q P
    → (x y u v : ℕ) → x < Q.size → y < Q.size → u < Q.size → v < Q.size
    → colour_at Q x y ≡ colour_at Q u v → Alike P x y u v
alike_in Q P q h r x y u v hx hy hu hv e =
    let turned = h.closed_under_transpose x y u v hx hy hu hv e in
    let same = IsPermutation-sides Q x y u v (h.constant_triangles x y u v hx hy hu hv e) in
    record {
      diagonal = (
        λ d. h.splits_diagonal x u v hx hu hv (ap (colour_at Q x) d ∙ e),
        λ d. h.splits_diagonal u x y hu hx hy (ap (colour_at Q u) d ∙ sym e),
      );
      own = r.classes x y u v hx hy hu hv e;
      turned = r.classes y x v u hy hx hv hu turned;
      counts = λ i j.
          triangles-over Q P q r x y i j hx hy
          ∙ sym (sum_by-IsPermutation (λ w. cond (sorts Q P i j w) 1 0) (sides Q x y) (sides Q u v) same)
          ∙ sym (triangles-over Q P q r u v i j hu hv);
    }

-- a bound in one of two equal sizes
within : (m n x : ℕ) → m ≡ n → x < n → x < m
within m n x e h = omega (arith, e, h)

-- P refines C, and is no finer than any coherent colouring that refines C
pub record IsOnTheWay (C P : PairColouring) : Type 0 where
  pub colouring : IsColouring P
  pub refines : Refines P C
  pub coarse : (Q : PairColouring) → IsColouring Q → Coherent Q → Refines Q C → Refines Q P

pub on_the_way-start : (C : PairColouring) → IsColouring C → IsOnTheWay C C
on_the_way-start C h = record { colouring = h; refines = Refines-refl C; coarse = λ Q q h r. r }

pub on_the_way-more : (C P R : PairColouring) → IsOnTheWay C P → IsRound P R → IsOnTheWay C R
on_the_way-more C P R w s =
    let to = λ (z : ℕ) (h : z < R.size). within P.size R.size z (sym s.sizes) h in
    record {
      colouring = s.colouring;
      refines = record {
        sizes = s.sizes ∙ w.refines.sizes;
        classes = λ x y u v hx hy hu hv e.
            w.refines.classes x y u v (to x hx) (to y hy) (to u hu) (to v hv) (s.apart x y u v (to x hx) (to y hy) (to u hu) (to v hv) e).own;
      };
      coarse = λ Q q h r.
          let p = w.coarse Q q h r in
          record {
            sizes = p.sizes ∙ sym s.sizes;
            classes = λ x y u v hx hy hu hv e.
                let to' = λ (z : ℕ) (l : z < Q.size). within P.size Q.size z (sym p.sizes) l in
                s.together x y u v (to' x hx) (to' y hy) (to' u hu) (to' v hv) (alike_in Q P q h p x y u v hx hy hu hv e);
          };
    }

pub round_refines : (P R : PairColouring) → IsRound P R → Refines R P
round_refines P R s = record {
  sizes = s.sizes;
  classes = λ x y u v hx hy hu hv e.
      let to = λ (z : ℕ) (h : z < R.size). within P.size R.size z (sym s.sizes) h in
      (s.apart x y u v (to x hx) (to y hy) (to u hu) (to v hv) e).own;
}

pub closed : (C P R : PairColouring) → IsOnTheWay C P → IsRound P R → Refines P R → IsClosure P C
closed C P R w s r = record {
  colouring = w.colouring;
  coherent = record {
    splits_diagonal = λ x u v hx hu hv e. (s.apart x x u v hx hx hu hv (r.classes x x u v hx hx hu hv e)).diagonal.0 refl;
    closed_under_transpose = λ x y u v hx hy hu hv e. (s.apart x y u v hx hy hu hv (r.classes x y u v hx hy hu hv e)).turned;
    constant_triangles = λ x y u v hx hy hu hv e. (s.apart x y u v hx hy hu hv (r.classes x y u v hx hy hu hv e)).counts;
  };
  refines = w.refines;
  coarsest = w.coarse;
}
