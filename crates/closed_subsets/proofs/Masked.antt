-- Closed sets as masks, and their list.
use Rattle.std.proofs.Common.{◌≡◌, ℕ, ◌+◌, ◌^◌, ◌<◌, ◌≤◌, Bool, List, [], ◌∷◌, ◌++◌, length, map, take, get_or, refl, sym, ap, subst, ◌∙◌, arith}
use Rattle.std.proofs.lemmas.List.{map-append}
use Rattle.pair_colours.specs.Colouring.{PairColouring, colour_at, points}
use Rattle.pair_colours.specs.ClosedSet.{IsClosedSet, ClosedSets}
use Rattle.pair_colours.specs.ColourSets.{is_in}
use Rattle.pair_colours.specs.Naming.{rank_of}
use Rattle.pair_colours.specs.Those.{AreThose}
use Rattle.pair_colours.proofs.Counts.{points_more}
use Rattle.pair_colours.proofs.SortedLists.{In-map}
use Rattle.pair_colours.proofs.ThoseLemmas.{those_unique, those_hold, those_push_yes, those_push_no}
use Rattle.struct_consts.specs.ClassData.{IsConfiguration}
use Rattle.struct_consts.proofs.LawProofs.{colours_are_below_rank}
use Rattle.visitors.specs.Entries.{IsEntry}
use Rattle.visitors.specs.Lists.{IsFront, IsCut}
use Rattle.visitors.specs.Masks.{is_member, members_of}
use Rattle.visitors.proofs.MaskSets.{is_in-members_of, subsets_masks, In-place, IsEntry-members}
use Rattle.closed_subsets.specs.Closedness.{IsClosedByConstants}
use Rattle.closed_subsets.specs.Products.{AreClosedMasks}
use Rattle.closed_subsets.proofs.Closing.{closed_by_constants}

-- sets with the same colours of K are closed alike
closed_same : (K : PairColouring) → IsConfiguration K → (p q : ℕ → Bool) → ((c : ℕ) → c < rank_of K → p c ≡ q c) → IsClosedSet K p → IsClosedSet K q
closed_same K g p q same s = record {
  reflexive = λ x hx. sym (at x x hx hx) ∙ s.reflexive x hx;
  symmetric = λ x y hx hy t. sym (at y x hy hx) ∙ s.symmetric x y hx hy (at x y hx hy ∙ t);
  transitive = λ x y z hx hy hz t u. sym (at x z hx hz) ∙ s.transitive x y z hx hy hz (at x y hx hy ∙ t) (at y z hy hz ∙ u);
}
  where
    at : (x y : ℕ) → x < K.size → y < K.size → p (colour_at K x y) ≡ q (colour_at K x y)
    at x y hx hy = same (colour_at K x y) ((colours_are_below_rank K g (colour_at K x y)).1 (record { x = x; y = y; row = hx; column = hy; is = refl }))

module _ (K : PairColouring) (g : IsConfiguration K) (mask : ℕ) where
  pub by_mask : IsClosedSet K (is_in (members_of (rank_of K) mask)) → IsClosedByConstants K (is_member mask)
  by_mask s = (closed_by_constants K g (is_member mask)).0 (closed_same K g (is_in (members_of (rank_of K) mask)) (is_member mask) (is_in-members_of (rank_of K) mask) s)

  pub from_mask : IsClosedByConstants K (is_member mask) → IsClosedSet K (is_in (members_of (rank_of K) mask))
  from_mask s = closed_same K g (is_member mask) (is_in (members_of (rank_of K) mask)) (λ c l. sym (is_in-members_of (rank_of K) mask c l)) ((closed_by_constants K g (is_member mask)).1 s)

  -- a closed set has a colour
  closed_entry : rank_of K ≤ 16 → IsClosedSet K (is_in (members_of (rank_of K) mask)) → IsEntry (members_of (rank_of K) mask)
  closed_entry small s =
      let zero_in : 0 < K.size = omega (arith, g.colouring.has_points) in
      let l = (colours_are_below_rank K g (colour_at K 0 0)).1 (record { x = 0; y = 0; row = zero_in; column = zero_in; is = refl }) in
      IsEntry-members (rank_of K) mask (colour_at K 0 0) small l (sym (is_in-members_of (rank_of K) mask (colour_at K 0 0) l) ∙ s.reflexive 0 zero_in)

-- the steps of the walk over the masks
module _ (P : List ℕ → Type 0) (f : ℕ → List ℕ) (m : ℕ) (masks : List ℕ) (a : AreThose P (map f (points m)) (map f masks)) where
  walked : map f (points (m + 1)) ≡ map f (points m) ++ f m ∷ []
  walked = ap (map f) (points_more m) ∙ map-append f (points m) (m ∷ [])

  pub masks_push_yes : P (f m) → AreThose P (map f (points (m + 1))) (map f (masks ++ m ∷ []))
  masks_push_yes p =
      subst (λ all. AreThose P all (map f (masks ++ m ∷ []))) (sym walked)
      (subst (λ xs. AreThose P (map f (points m) ++ f m ∷ []) xs) (sym (map-append f masks (m ∷ [])))
      (those_push_yes P (map f (points m)) (map f masks) (f m) a p))

  pub masks_push_no : (P (f m) → ⊥) → AreThose P (map f (points (m + 1))) (map f masks)
  masks_push_no p =
      subst (λ all. AreThose P all (map f masks)) (sym walked)
      (those_push_no P (map f (points m)) (map f masks) (f m) a p)

-- after the walk they are the masks of all closed sets
pub masks_all : (K : PairColouring) → IsConfiguration K → rank_of K ≤ 16 → (masks : List ℕ)
    → AreThose (λ set. IsClosedSet K (is_in set)) (map (members_of (rank_of K)) (points (2 ^ rank_of K))) (map (members_of (rank_of K)) masks) → AreClosedMasks K masks
masks_all K g small masks a = record {
  sets = subst (λ all. AreThose (λ set. IsClosedSet K (is_in set)) all (map f masks)) (subsets_masks (rank_of K)) a;
  entries = λ k d l. closed_entry K g (get_or masks k d) small
      (those_hold (λ set. IsClosedSet K (is_in set)) (map f (points (2 ^ rank_of K))) (map f masks) a (f (get_or masks k d)) (In-map f masks (get_or masks k d) (In-place masks k d l))).0;
}
  where
    f : ℕ → List ℕ
    f = members_of (rank_of K)

-- the sets that were met
module _ (K : PairColouring) (r : ℕ) (masks : List ℕ) (met : List (List ℕ)) (e : r ≡ rank_of K) (m : AreClosedMasks K masks) where
  whole_is : (whole : List (List ℕ)) → ClosedSets K whole → map (members_of r) masks ≡ whole
  whole_is whole w = ap (λ n. map (members_of n) masks) e ∙ those_unique _ _ _ whole m.sets w

  pub cut_from : (room : ℕ) → met ≡ take room (map (members_of r) masks) → IsCut (ClosedSets K) room met
  cut_from room t = record { cut = λ whole w. t ∙ ap (take room) (whole_is whole w) }

  pub front_from : met ≡ take (length met) (map (members_of r) masks) → IsFront (ClosedSets K) met
  front_from t = record { front = λ whole w. t ∙ ap (take (length met)) (whole_is whole w) }
