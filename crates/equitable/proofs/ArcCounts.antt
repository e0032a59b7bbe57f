-- Arcs into the cells of a coarser partition: they are counted over the arcs into the cells of the finer one.
use Rattle.std.proofs.Common.{◌≡◌, ◌==◌, ◌&&◌, ℕ, ◌<◌, Bool, true, cond, List, length, get_or, map, filter, count_by, refl, sym, ◌∙◌, arith}
use Rattle.std.specs.List.{position_or_len}
use Rattle.std.specs.List.Sorted.{IsPermutation}
use Rattle.std.proofs.lemmas.Bool.{eqb-true, eq-eqb}
use Rattle.std.proofs.lemmas.List.Sorted.{sum_by-IsPermutation}
use Rattle.pair_colours.specs.Colouring.{PairColouring, colour_at, points}
use Rattle.pair_colours.proofs.Counts.{count_by-filter, count_by-map, count_by_points, IsPermutation-from_counts}
use Rattle.pair_colours.proofs.Places.{first_place}
use Rattle.equitable.specs.Equitable.{arcs_into}

-- the cells of the points to which an arc leads from x
abbrev pub cells_reached : PairColouring → List ℕ → ℕ → List ℕ
cells_reached G W x = map (λ z. get_or W z 0) (filter (λ z. colour_at G x z == 1) (points G.size))

count_reached : (G : PairColouring) (W : List ℕ) (x : ℕ) (p : ℕ → Bool)
    → count_by p (cells_reached G W x) ≡ count_by (λ z. (colour_at G x z == 1) && p (get_or W z 0)) (points G.size)
count_reached G W x p =
    count_by-map p (λ z. get_or W z 0) (filter (λ z. colour_at G x z == 1) (points G.size))
    ∙ count_by-filter (λ z. p (get_or W z 0)) (λ z. colour_at G x z == 1) (points G.size)

-- equality, the other way round
abbrev same : ℕ → ℕ → Bool
same a b = b == a

same_tells : (a b : ℕ) → same a b ≡ true → a ≡ b
same_tells a b e = sym (eqb-true b a e)

same_self : (a : ℕ) → same a a ≡ true
same_self a = eq-eqb a a refl

-- with equally many arcs into each cell, they lead into the same cells in another order
IsPermutation-reached : (G : PairColouring) (V : List ℕ) (x y : ℕ) → ((c : ℕ) → arcs_into G V x c ≡ arcs_into G V y c)
    → IsPermutation (cells_reached G V x) (cells_reached G V y)
IsPermutation-reached G V x y h =
    IsPermutation-from_counts same same_tells same_self (cells_reached G V x) (cells_reached G V y)
    (λ c. count_reached G V x (same c) ∙ h c ∙ sym (count_reached G V y (same c)))

-- points of one V-cell are in one W-cell
pub record IsCoarser (n : ℕ) (V W : List ℕ) : Type 0 where
  pub together : (x y : ℕ) → x < n → y < n → get_or V x 0 ≡ get_or V y 0 → get_or W x 0 ≡ get_or W y 0

-- the W-cell of the points of a V-cell
abbrev over_cell : List ℕ → List ℕ → ℕ → ℕ
over_cell V W c = get_or W (position_or_len (λ v. c == v) V) 0

over_cell_at : (n : ℕ) (V W : List ℕ) → length V ≡ n → IsCoarser n V W → (z : ℕ) → z < n → over_cell V W (get_or V z 0) ≡ get_or W z 0
over_cell_at n V W len h z l =
    let c : ℕ = get_or V z 0 in
    let f = first_place V z c (omega (arith, len, l)) refl in
    h.together (position_or_len (λ v. c == v) V) z (omega (arith, f.0, len)) l f.1

arcs_over : (G : PairColouring) (V W : List ℕ) → length V ≡ G.size → IsCoarser G.size V W → (x c : ℕ)
    → arcs_into G W x c ≡ count_by (λ v. over_cell V W v == c) (cells_reached G V x)
arcs_over G V W len h x c =
    count_by_points (λ z. (colour_at G x z == 1) && (get_or W z 0 == c)) (λ z. (colour_at G x z == 1) && (over_cell V W (get_or V z 0) == c)) G.size
    (λ z l i. (colour_at G x z == 1) && (sym (over_cell_at G.size V W len h z l) i == c))
    ∙ sym (count_reached G V x (λ v. over_cell V W v == c))

-- where from two points equally many arcs lead into each V-cell, so they do into each W-cell
pub arcs_coarser : (G : PairColouring) (V W : List ℕ) → length V ≡ G.size → IsCoarser G.size V W → (x y : ℕ)
    → ((c : ℕ) → arcs_into G V x c ≡ arcs_into G V y c) → (c : ℕ) → arcs_into G W x c ≡ arcs_into G W y c
arcs_coarser G V W len h x y e c =
    arcs_over G V W len h x c
    ∙ sym (sum_by-IsPermutation (λ v. cond (over_cell V W v == c) 1 0) (cells_reached G V x) (cells_reached G V y) (IsPermutation-reached G V x y e))
    ∙ sym (arcs_over G V W len h y c)
