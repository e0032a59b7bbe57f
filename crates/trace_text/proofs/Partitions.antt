-- Colourings whose colours are the numbers below m: their rank is m.
use Rattle.std.proofs.Common.{◌≡◌, ◌==◌, ℕ, suc, zero, ◌+◌, ◌*◌, ◌<◌, ◌≤◌, not, cond, List, [], ◌∷◌, length, get_or, count_by, refl, sym, ap, subst, ◌∙◌, arith}
use Rattle.std.specs.List.{position_or_len}
use Rattle.std.proofs.lemmas.Bool.{eq-eqb, ne_eqb}
use Rattle.std.proofs.lemmas.List.Folds.{list_any_at}
use Rattle.pair_colours.specs.Colouring.{PairColouring, IsColouring, IsColour, colour_at}
use Rattle.pair_colours.specs.Naming.{walk, colours_met, name_of, named_of, rank_of}
use Rattle.pair_colours.proofs.Counts.{unit_of, count_by-cons}
use Rattle.pair_colours.proofs.NamePlaces.{name_of-position}
use Rattle.pair_colours.proofs.ListLemmas.{Each-weaker, list_any-map}
use Rattle.pair_colours.proofs.Names.{along, met_all, list_any-walk, Each-first_met, Each-along}
use Rattle.pair_colours.proofs.Closures.{met_at, colour_at-named_of, IsColouring-named_of}
use Rattle.pair_colours.proofs.Exists.{IsColouring-by_pairs}
use Rattle.trace_text.specs.Partition.{IsPartition, coloured_by, meet_of}
use Rattle.pair_colours.proofs.Below.{below_all, below_each, met_once, counted_from_any, holds_where_counted}

-- a colour counts among those met
pub colour_counts : (A : PairColouring) (c : ℕ) → IsColour A c → 0 < count_by (λ y. c == y) (colours_met A)
colour_counts A c u =
    counted_from_any (colours_met A) c
    (met_all (along A) c
    (list_any-map (λ y. c == y) (λ p. colour_at A p.0 p.1) (walk A.size)
    ∙ list_any-walk (λ p. c == colour_at A p.0 p.1) A.size u.x u.y u.row u.column (eq-eqb c _ (sym u.is))))

-- exactly the numbers below m are colours
pub record UsesBelow (A : PairColouring) (m : ℕ) : Type 0 where
  pub below : (x y : ℕ) → x < A.size → y < A.size → colour_at A x y < m
  pub used : (k : ℕ) → k < m → IsColour A k

colour_below : (A : PairColouring) (m : ℕ) → UsesBelow A m → (c : ℕ) → IsColour A c → c < m
colour_below A m h c u = subst (λ k. k < m) u.is (h.below u.x u.y u.row u.column)

pub rank_from_used : (A : PairColouring) (m : ℕ) → UsesBelow A m → rank_of A ≡ m
rank_from_used A m h =
    sym (below_all (colours_met A) m (Each-weaker (IsColour A) (λ k. k < m) (colour_below A m h) (colours_met A) (Each-first_met (IsColour A) (along A) (Each-along A))))
    ∙ below_each (colours_met A) m (λ k l. omega (arith, met_once (along A) k, colour_counts A k (h.used k l)))

pub IsPartition-from_used : (A : PairColouring) (m : ℕ) → IsColouring A → UsesBelow A m → IsPartition A
IsPartition-from_used A m a h =
    let r = rank_from_used A m h in
    record { colouring = a; below = λ x y hx hy. subst (λ n. colour_at A x y < n) (sym r) (h.below x y hx hy); used = λ k l. h.used k (omega (arith, l, r)) }

-- a number of the list counts
counted_at : (ks : List ℕ) (k : ℕ) → k < length ks → 0 < count_by (λ y. get_or ks k 0 == y) ks
counted_at ks k l = counted_from_any ks (get_or ks k 0) (list_any_at (λ y. get_or ks k 0 == y) ks k 0 l (eq-eqb _ _ refl))

-- in a list of different numbers each stands at its first place
position_at : (ks : List ℕ) (k : ℕ) → ((c : ℕ) → count_by (λ y. c == y) ks ≤ 1) → k < length ks → position_or_len (λ y. get_or ks k 0 == y) ks ≡ k
position_at [] k once l = absurd (omega (arith, l))
position_at (x ∷ ks) zero once l = ap (λ b. cond (not b) (1 + position_or_len (λ y. x == y) ks) 0) (eq-eqb x x refl)
position_at (x ∷ ks) (suc k) once l =
    let m : k < length ks = omega (arith, l) in
    let c : ℕ = get_or ks k 0 in
    let ne : c ≡ x → ⊥ = λ e. omega (arith, once c, counted_at ks k m, count_by-cons (λ y. c == y) x ks, ap unit_of (eq-eqb c x e)) in
    let again = position_at ks k (λ d. omega (arith, once d, count_by-cons (λ y. d == y) x ks)) m in
    let step : position_or_len (λ y. c == y) (x ∷ ks) ≡ 1 + position_or_len (λ y. c == y) ks =
    ap (λ b. cond (not b) (1 + position_or_len (λ y. c == y) ks) 0) (ne_eqb c x ne) in
    omega (arith, step, again)

-- a naming is a partition, of the same rank
pub UsesBelow-named_of : (A : PairColouring) → IsColouring A → UsesBelow (named_of A) (rank_of A)
UsesBelow-named_of A a = record {
  below = λ x y hx hy.
      subst (λ k. k < rank_of A) (sym (colour_at-named_of A a x y hx hy))
      (met_at A (colour_at A x y) (record { x = x; y = y; row = hx; column = hy; is = refl })).0;
  used = λ k l.
      let c : ℕ = get_or (colours_met A) k 0 in
      let u : IsColour A c = holds_where_counted (IsColour A) (colours_met A) c (Each-first_met (IsColour A) (along A) (Each-along A)) (counted_at (colours_met A) k l) in
      record {
        x = u.x;
        y = u.y;
        row = u.row;
        column = u.column;
        is = colour_at-named_of A a u.x u.y u.row u.column ∙ ap (name_of A) u.is ∙ name_of-position A c ∙ position_at (colours_met A) k (met_once (along A)) l;
      };
}

pub IsPartition-named_of : (A : PairColouring) → IsColouring A → IsPartition (named_of A)
IsPartition-named_of A a = IsPartition-from_used (named_of A) (rank_of A) (IsColouring-named_of A a) (UsesBelow-named_of A a)

pub rank_of-named_of : (A : PairColouring) → IsColouring A → rank_of (named_of A) ≡ rank_of A
rank_of-named_of A a = rank_from_used (named_of A) (rank_of A) (UsesBelow-named_of A a)

pub IsPartition-meet_of : (A P : PairColouring) → IsColouring A → IsPartition (meet_of A P)
IsPartition-meet_of A P a =
    IsPartition-named_of (coloured_by A.size (λ x y. colour_at A x y * rank_of P + name_of P (colour_at P x y)))
    (IsColouring-by_pairs A.size (λ x y. colour_at A x y * rank_of P + name_of P (colour_at P x y)) a.has_points)
