-- The points of a cell, and the arcs that lead to them.
use Rattle.std.proofs.Common.{◌≡◌, ◌==◌, ◌&&◌, ℕ, ◌+◌, ◌<◌, ◌≤◌, Bool, true, false, cond, All, List, [], ◌∷◌, ◌++◌, length, get_or, take, filter, count_by, refl, sym, ap, subst, ◌∙◌, arith}
use Rattle.std.specs.List.{AllByRecursion}
use Rattle.std.proofs.lemmas.Bool.{eq-eqb, ne_eqb}
use Rattle.std.proofs.lemmas.List.{append-nil, take_more, get_or_default}
use Rattle.std.proofs.lemmas.List.Elements.{All-from_recursion}
use Rattle.std.proofs.lemmas.List.FromFn.{length-range_with_len}
use Rattle.std.proofs.lemmas.List.Sums.{sum_by_push, length-filter, count_by-le-length}
use Rattle.pair_colours.specs.Colouring.{PairColouring, colour_at, points}
use Rattle.pair_colours.proofs.Counts.{unit_of, count_by_agree, count_by-filter}
use Rattle.pair_colours.proofs.ListLemmas.{Each-filter, Each-points}
use Rattle.equitable.specs.Equitable.{arcs_into}
use Rattle.equitable.proofs.PartitionLoops.{filter_more}

-- the points of a cell
abbrev pub points_in : List ℕ → ℕ → List ℕ
points_in W c = filter (λ z. get_or W z 0 == c) (points (length W))

-- one point more is in the cell, or in another
pub point_met : (W : List ℕ) (c z d : ℕ) (old new : List ℕ) → get_or W z d ≡ c → z < length W → old ≡ filter (λ x. get_or W x 0 == c) (points z)
    → new ≡ old ++ z ∷ [] → new ≡ filter (λ x. get_or W x 0 == c) (points (z + 1))
point_met W c z d old new e l before after =
    let here = ap (λ b. cond b (z ∷ []) []) (eq-eqb _ _ (sym (get_or_default W z d 0 l) ∙ e)) in
    after ∙ ap (λ k. k ++ z ∷ []) before ∙ sym (filter_more (λ x. get_or W x 0 == c) z (z ∷ []) here)

pub point_passed : (W : List ℕ) (c z d : ℕ) (old new : List ℕ) → (get_or W z d ≡ c → ⊥) → z < length W → old ≡ filter (λ x. get_or W x 0 == c) (points z)
    → new ≡ old → new ≡ filter (λ x. get_or W x 0 == c) (points (z + 1))
point_passed W c z d old new ne l before after =
    let none = ap (λ b. cond b (z ∷ []) []) (ne_eqb _ _ (λ e. ne (get_or_default W z d 0 l ∙ e))) in
    after ∙ before ∙ sym (filter_more (λ x. get_or W x 0 == c) z [] none ∙ append-nil (filter (λ x. get_or W x 0 == c) (points z)))

-- one element more is counted
pub count_taken : (p : ℕ → Bool) (xs : List ℕ) (i d old new : ℕ) (b : Bool) → i < length xs → b ≡ p (get_or xs i d) → old ≡ count_by p (take i xs)
    → new ≡ old + unit_of b → new ≡ count_by p (take (i + 1) xs)
count_taken p xs i d old new b l is before after =
    let more : count_by p (take (i + 1) xs) ≡ count_by p (take i xs) + unit_of (p (get_or xs i d)) =
    ap (count_by p) (take_more xs i d l) ∙ sum_by_push (λ w. unit_of (p w)) (take i xs) (get_or xs i d) in
    omega (arith, more, before, after, ap unit_of is)

-- the points of a cell are points, and no more than there are
pub members_inside : (W members : List ℕ) (c n : ℕ) → members ≡ points_in W c → length W ≡ n → All (λ z. z < n) members
members_inside W members c n e len =
    let each = Each-filter (λ z. z < length W) (λ z. get_or W z 0 == c) (points (length W)) (Each-points (length W)) in
    subst (λ m. All (λ z. z < m) members) len
    (All-from_recursion (λ z. z < length W) members (subst (AllByRecursion (λ z. z < length W)) (sym e) each))

pub members_few : (W members : List ℕ) (c : ℕ) → members ≡ points_in W c → length members ≤ length W
members_few W members c e =
    omega (
      arith,
      ap length e,
      length-filter (λ z. get_or W z 0 == c) (points (length W)),
      count_by-le-length (λ z. get_or W z 0 == c) (points (length W)),
      length-range_with_len 0 (length W),
    )

and_swapped : (a b : Bool) → (a && b) ≡ (b && a)
and_swapped true true = refl
and_swapped true false = refl
and_swapped false true = refl
and_swapped false false = refl

-- arcs to the points of a cell lead into the cell
pub arcs_to_members : (G : PairColouring) (W members : List ℕ) (x c count : ℕ) → length W ≡ G.size → members ≡ points_in W c
    → count ≡ count_by (λ z. colour_at G x z == 1) members → count ≡ arcs_into G W x c
arcs_to_members G W members x c count len e is =
    is
    ∙ ap (count_by (λ z. colour_at G x z == 1)) e
    ∙ count_by-filter (λ z. colour_at G x z == 1) (λ z. get_or W z 0 == c) (points (length W))
    ∙ count_by_agree (λ z. (get_or W z 0 == c) && (colour_at G x z == 1)) (λ z. (colour_at G x z == 1) && (get_or W z 0 == c))
    (λ z. and_swapped (get_or W z 0 == c) (colour_at G x z == 1)) (points (length W))
    ∙ ap (λ n. count_by (λ z. (colour_at G x z == 1) && (get_or W z 0 == c)) (points n)) len
