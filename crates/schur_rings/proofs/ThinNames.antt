-- The thin scheme of a group is its own naming, and has a class for each element.
use Rattle.std.proofs.Common.{◌≡◌, ◌==◌, ℕ, suc, zero, ◌+◌, ◌<◌, ◌≤◌, not, cond, List, [], ◌∷◌, ◌++◌, length, get_or, map, filter, refl, sym, ap, subst, ◌∙◌, arith}
use Rattle.std.specs.List.{AllByRecursion, flat_map, range_with_len}
use Rattle.std.proofs.lemmas.Bool.{ne_eqb}
use Rattle.std.proofs.lemmas.List.{append_assoc, map-append, map-id}
use Rattle.std.proofs.lemmas.List.FromFn.{get_or-range_with_len, length-range_with_len}
use Rattle.pair_colours.specs.Colouring.{PairColouring, colour_at, points}
use Rattle.pair_colours.specs.Naming.{row_of, walk, first_met, colours_met, name_of, named_of, rank_of}
use Rattle.pair_colours.proofs.Closures.{met_at, colour_at-named_of, IsColouring-named_of}
use Rattle.pair_colours.proofs.ListLemmas.{Each-weaker, Each-map, map_agree, map-map}
use Rattle.pair_colours.proofs.Names.{InSquare, Each-walk}
use Rattle.pair_colours.proofs.MetNumbers.{met_known, met_next}
use Rattle.pair_colours.proofs.SameColours.{same_colouring}
use Rattle.schur_rings.specs.Group.{IsGroup, quotient}
use Rattle.schur_rings.specs.Thin.{thin_of}
use Rattle.schur_rings.proofs.GroupLemmas.{unit_below, quotient_below, quotient_of_one, quotient_by_unit}
use Rattle.schur_rings.proofs.ThinLemmas.{thin_at, IsColouring-thin}

Each-tail : (P : ℕ → Type 0) (xs ys : List ℕ) → AllByRecursion P (xs ++ ys) → AllByRecursion P ys
Each-tail P [] ys a = a
Each-tail P (x ∷ xs) ys a = Each-tail P xs ys a.1

off_unit : (a m : ℕ) → 0 < a → filter (λ y. not (0 == y)) (range_with_len a m) ≡ range_with_len a m
off_unit a zero l = refl
off_unit a (suc m) l =
    ap (λ b. cond (not b) (a ∷ filter (λ y. not (0 == y)) (range_with_len (a + 1) m)) (filter (λ y. not (0 == y)) (range_with_len (a + 1) m))) (ne_eqb 0 a (λ e. omega (arith, e, l)))
    ∙ ap (λ ys. a ∷ ys) (off_unit (a + 1) m (omega arith))

Each-range : (P : ℕ → Type 0) (a m : ℕ) → ((k : ℕ) → a ≤ k → k < a + m → P k) → AllByRecursion P (range_with_len a m)
Each-range P a zero h = tt
Each-range P a (suc m) h = (h a (omega arith) (omega arith), Each-range P (a + 1) m (λ k l t. h k (omega (arith, l)) (omega (arith, t))))

-- colours of pairs with 0 on the diagonal, each y at (0, y), and none that is no point
pub record StartsThin (n : ℕ) (q : ℕ → ℕ → ℕ) : Type 0 where
  pub diagonal : (x : ℕ) → x < n → q x x ≡ 0
  pub first : (y : ℕ) → y < n → q 0 y ≡ y
  pub low : (x y : ℕ) → x < n → y < n → q x y < n

abbrev colour_of : (ℕ → ℕ → ℕ) → ℕ × ℕ → ℕ
colour_of q p = q p.0 p.1

-- along the walk they are met in their order
met_on_walk : (m : ℕ) (q : ℕ → ℕ → ℕ) → StartsThin (suc m) q → first_met (map (colour_of q) (walk (suc m))) ≡ points (suc m)
met_on_walk m q s =
    let n : ℕ = suc m in
    let diagonal : List ℕ = map (colour_of q) (map (λ x. (x, x)) (points n)) in
    let row : List ℕ = map (colour_of q) (row_of n 0) in
    let rest : List ℕ = map (colour_of q) (flat_map (row_of n) (range_with_len 1 m)) in
    let later : List ℕ = map (colour_of q) (map (λ x. (x, x)) (range_with_len 1 m)) in
    let parts : map (colour_of q) (walk n) ≡ (diagonal ++ row) ++ rest =
    map-append (colour_of q) (map (λ x. (x, x)) (points n)) (flat_map (row_of n) (points n))
    ∙ ap (λ ks. diagonal ++ ks) (map-append (colour_of q) (row_of n 0) (flat_map (row_of n) (range_with_len 1 m)))
    ∙ sym (append_assoc diagonal row rest) in
    let low : AllByRecursion (λ k. k < n) (map (colour_of q) (walk n)) =
    Each-map (λ k. k < n) (colour_of q) (walk n) (Each-weaker (InSquare n) (λ p. colour_of q p < n) (λ p l. s.low p.0 p.1 l.0 l.1) (walk n) (Each-walk n)) in
    let zeros : AllByRecursion (λ k. k < 1) later =
    Each-map (λ k. k < 1) (colour_of q) (map (λ x. (x, x)) (range_with_len 1 m))
    (Each-map (λ p. colour_of q p < 1) (λ x. (x, x)) (range_with_len 1 m)
    (Each-range (λ x. q x x < 1) 1 m (λ x l t. omega (arith, s.diagonal x (omega (arith, t)))))) in
    let one : first_met (0 ∷ []) ≡ points 1 = refl in
    let start : diagonal ≡ (0 ∷ []) ++ later = ap (λ k. k ∷ later) (s.diagonal 0 (omega arith)) in
    let first : first_met diagonal ≡ points 1 = ap first_met start ∙ met_known 1 (0 ∷ []) later one zeros in
    let elements : row ≡ range_with_len 1 m =
    map-map (colour_of q) (λ y. (0, y)) (filter (λ y. not (0 == y)) (points n))
    ∙ ap (map (q 0)) (off_unit 1 m (omega arith))
    ∙ map_agree (q 0) (λ y. y) (range_with_len 1 m) (Each-range (λ y. q 0 y ≡ y) 1 m (λ y l t. s.first y (omega (arith, t))))
    ∙ map-id (range_with_len 1 m) in
    let sum : 1 + m ≡ n = omega arith in
    let all : first_met (diagonal ++ row) ≡ points n = ap (λ ks. first_met (diagonal ++ ks)) elements ∙ met_next m 1 diagonal first ∙ ap points sum in
    ap first_met parts
    ∙ met_known n (diagonal ++ row) rest all (Each-tail (λ k. k < n) (diagonal ++ row) rest (subst (AllByRecursion (λ k. k < n)) parts low))

met_in_order : (n : ℕ) (q : ℕ → ℕ → ℕ) → 1 ≤ n → StartsThin n q → first_met (map (colour_of q) (walk n)) ≡ points n
met_in_order zero q l s = absurd (omega (arith, l))
met_in_order (suc m) q l s = met_on_walk m q s

module _ (T : PairColouring) (g : IsGroup T) where
  quotients_start : StartsThin T.size (quotient T)
  quotients_start = record { diagonal = quotient_of_one T g; first = quotient_by_unit T g; low = quotient_below T g }

  pub colours_met-thin : colours_met (thin_of T) ≡ points T.size
  colours_met-thin =
      ap first_met
      (map_agree (λ p. colour_at (thin_of T) p.0 p.1) (colour_of (quotient T)) (walk T.size)
      (Each-weaker (InSquare T.size) (λ p. colour_at (thin_of T) p.0 p.1 ≡ colour_of (quotient T) p) (λ p l. thin_at T p.0 p.1 l.0 l.1) (walk T.size) (Each-walk T.size)))
      ∙ met_in_order T.size (quotient T) g.colouring.has_points quotients_start

  pub rank-thin : rank_of (thin_of T) ≡ T.size
  rank-thin = ap length colours_met-thin ∙ length-range_with_len 0 T.size

  -- an element is its own name
  name-thin : (c : ℕ) → c < T.size → name_of (thin_of T) c ≡ c
  name-thin c l =
      let h0 : 0 < T.size = unit_below T g in
      let k : ℕ = name_of (thin_of T) c in
      let at = met_at (thin_of T) c (record { x = 0; y = c; row = h0; column = l; is = thin_at T 0 c h0 l ∙ quotient_by_unit T g c l }) in
      let low : k < T.size = omega (arith, at.0, ap length colours_met-thin, length-range_with_len 0 T.size) in
      let there : get_or (points T.size) k 0 ≡ c = ap (λ ks. get_or ks k 0) (sym colours_met-thin) ∙ at.1 in
      omega (arith, there, get_or-range_with_len 0 T.size k 0 low)

  pub named-thin : named_of (thin_of T) ≡ thin_of T
  named-thin =
      let h = IsColouring-thin T g.colouring in
      same_colouring (named_of (thin_of T)) (thin_of T) (IsColouring-named_of (thin_of T) h) h (record {
        sizes = refl;
        colours = λ x y hx hy.
            let below : colour_at (thin_of T) x y < T.size = omega (arith, thin_at T x y hx hy, quotient_below T g x y hx hy) in
            colour_at-named_of (thin_of T) h x y hx hy ∙ name-thin (colour_at (thin_of T) x y) below;
      })
