-- The lists of classes and of members that the least points give, and what is made of them.
use Rattle.std.proofs.Common.{◌≡◌, ◌==◌, ℕ, ◌<◌, ◌≤◌, Bool, List, length, get_or, filter, All, sym, ap, subst, ◌∙◌}
use Rattle.std.proofs.lemmas.Bool.{eqb-true, eq-eqb}
use Rattle.pair_colours.specs.Colouring.{PairColouring, colour_at, points}
use Rattle.quotients.specs.Quotient.{least_of, classes, class_of, Quotient, Subscheme}
use Rattle.quotients.specs.Steps.{AreLeasts, IsLeastMet, IsPicked, IsNamedPart, IsDivided, IsCutOut}
use Rattle.quotients.specs.Law.{IsParted}
use Rattle.quotients.proofs.Points.{filtered_below, filtered_few}
use Rattle.quotients.proofs.Leasts.{bool_same, member_tells}
use Rattle.quotients.proofs.Namings.{subscheme_from_picked, quotient_from_picked}
use Rattle.quotients.proofs.Tellings.{some_class, tells_from_least}
use Rattle.quotients.proofs.Subschemes.{some_member}
use Rattle.pair_colours.proofs.ListLemmas.{filter_points_agree}

-- the points that stand for themselves in a list of least points, and those that stand as x does
abbrev pub firsts_in : List ℕ → List ℕ
firsts_in ls = filter (λ y. get_or ls y 0 == y) (points (length ls))

abbrev pub members_in : List ℕ → ℕ → List ℕ
members_in ls x = filter (λ y. get_or ls y 0 == get_or ls x 0) (points (length ls))

module _ (K : PairColouring) (S : ℕ → Bool) (ls : List ℕ) (a : AreLeasts K S ls) where
  pub firsts_are : firsts_in ls ≡ classes K S
  firsts_are =
      ap (λ n. filter (λ y. get_or ls y 0 == y) (points n)) a.len
      ∙ filter_points_agree (λ y. get_or ls y 0 == y) (λ y. least_of K S y == y) K.size (λ z l. λ i. a.is z l i == z)

  pub members_are : (x : ℕ) → IsParted K S → x < K.size → members_in ls x ≡ class_of K S x
  members_are x p hx =
      ap (λ n. filter (λ y. get_or ls y 0 == get_or ls x 0) (points n)) a.len
      ∙ filter_points_agree (λ y. get_or ls y 0 == get_or ls x 0) (λ y. S (colour_at K x y)) K.size
      (λ z l. bool_same _ _
      (λ t. member_tells K S p.closed x z hx l ∙ eq-eqb _ _ (sym (a.is x hx) ∙ sym (eqb-true _ _ t) ∙ a.is z l))
      (λ t. eq-eqb _ _ (a.is z l ∙ sym (eqb-true _ _ (sym (member_tells K S p.closed x z hx l) ∙ t)) ∙ sym (a.is x hx))))

-- a list of points to pick: there is one, there are no more than points, and each is a point
pub record CanPick (n : ℕ) (ps : List ℕ) : Type 0 where
  pub some : 1 ≤ length ps
  pub few : length ps ≤ n
  pub points : All (λ p. p < n) ps

pub can_pick_firsts : (K : PairColouring) (S : ℕ → Bool) (ls ps : List ℕ) → IsParted K S → AreLeasts K S ls → ps ≡ firsts_in ls → CanPick K.size ps
can_pick_firsts K S ls ps p a e =
    subst (CanPick K.size) (sym (e ∙ firsts_are K S ls a))
    (record { some = some_class K S p; few = filtered_few (λ x. least_of K S x == x) K.size; points = filtered_below (λ x. least_of K S x == x) K.size })

pub can_pick_members : (K : PairColouring) (S : ℕ → Bool) (ls ps : List ℕ) (x : ℕ) → IsParted K S → AreLeasts K S ls → x < K.size → ps ≡ members_in ls x → CanPick K.size ps
can_pick_members K S ls ps x p a hx e =
    subst (CanPick K.size) (sym (e ∙ members_are K S ls a x p hx))
    (record { some = some_member K S x p hx; few = filtered_few (λ y. S (colour_at K x y)) K.size; points = filtered_below (λ y. S (colour_at K x y)) K.size })

pub divided_from : (K : PairColouring) (ls ps : List ℕ) (M L : PairColouring) → IsLeastMet K ls M → ps ≡ firsts_in ls → IsNamedPart M ps L → IsDivided K ls L
divided_from K ls ps M L m e n = record {
  quotient = λ S p a.
      subst (Quotient K S) (sym n.named)
      (quotient_from_picked K S M n.part (tells_from_least K S p ls a M m) (subst (λ xs. IsPicked M xs n.part) (e ∙ firsts_are K S ls a) n.picked));
}

pub cut_out_from : (K : PairColouring) (ls ps : List ℕ) (x : ℕ) (L : PairColouring) → x < K.size → ps ≡ members_in ls x → IsNamedPart K ps L → IsCutOut K ls x L
cut_out_from K ls ps x L hx e n = record {
  subscheme = λ S p a.
      subst (Subscheme K S x) (sym n.named)
      (subscheme_from_picked K S x n.part (subst (λ xs. IsPicked K xs n.part) (e ∙ members_are K S ls a x p hx) n.picked));
}
