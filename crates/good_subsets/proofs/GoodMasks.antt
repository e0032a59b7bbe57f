-- What the mask of a good set passes, and the list of the masks of good sets.
use Rattle.std.proofs.Common.{◌≡◌, ◌==◌, Bool, false, Some, ℕ, ◌+◌, ◌^◌, ◌<◌, ◌≤◌, true, List, [], ◌∷◌, ◌++◌, length, map, take, bit_and, get_or, sym, ap, subst, ◌∙◌, arith}
use Rattle.std.proofs.lemmas.Bool.{eqb-true, eq-eqb, ne_eqb}
use Rattle.std.proofs.lemmas.List.{map-append, length_push}
use Rattle.pair_colours.specs.Colouring.{PairColouring, colour_at, points}
use Rattle.pair_colours.specs.ColourSets.{is_in}
use Rattle.pair_colours.specs.IntersectionNumber.{pair_of_class}
use Rattle.pair_colours.specs.Naming.{rank_of, first_pair_of}
use Rattle.pair_colours.specs.Subsets.{bit_number}
use Rattle.pair_colours.specs.Those.{AreThose}
use Rattle.pair_colours.proofs.Counts.{points_more}
use Rattle.pair_colours.proofs.SortedLists.{In, In-map, In_from_Contains}
use Rattle.pair_colours.proofs.ThoseLemmas.{those_unique, those_hold, those_push_yes, those_push_no}
use Rattle.struct_consts.specs.ClassData.{IsConfiguration}
use Rattle.visitors.specs.Entries.{IsEntry}
use Rattle.visitors.specs.Masks.{is_member, members_of, HasBits}
use Rattle.visitors.specs.Lists.{IsFront, IsCut}
use Rattle.visitors.proofs.MaskSets.{member_in, in_member, is_in-members_of, subsets_masks, In-place, IsEntry-members}
use Rattle.colour_wl.specs.BlockSums.{transposed}
use Rattle.colour_wl.proofs.Classes.{pair_of_class-is, pair_of_class-holds}
use Rattle.good_subsets.specs.Diagonals.{IsDiagonalMask}
use Rattle.good_subsets.specs.GoodSets.{IsGood, IsGoodSets, AreGoodNumbers}
use Rattle.good_subsets.specs.Products.{IsConstantOn}
use Rattle.good_subsets.specs.Transposed.{transposes, IsTurned}
use Rattle.good_subsets.proofs.Blocks.{good_passes, transposed-below}
use Rattle.good_subsets.proofs.GoodTest.{good_not_empty}
use Rattle.good_subsets.proofs.MaskBits.{common_colour, common_whole, members_from_bits, masks_same, bit_number-members}
use Rattle.pair_colours.proofs.ListLemmas.{filter_points_agree}

pub turned_made : (K : PairColouring) → IsConfiguration K → (mask turned : ℕ) → HasBits (rank_of K) turned (λ d. is_member mask (transposed K d)) → IsTurned K mask turned
turned_made K h mask turned b = record {
  low = b.low;
  members =
      members_from_bits (rank_of K) turned (λ d. is_member mask (transposed K d)) b
      ∙ filter_points_agree (λ d. is_member mask (transposed K d)) (λ d. is_in (members_of (rank_of K) mask) (transposed K d)) (rank_of K)
      (λ c l. sym (is_in-members_of (rank_of K) mask (transposed K c) (transposed-below K h c l)));
}

-- whether a class is diagonal
abbrev pub is_diagonal : PairColouring → ℕ → Bool
is_diagonal K c = (pair_of_class K c).0 == (pair_of_class K c).1

pub is_diagonal-yes : (K : PairColouring) (c : ℕ) (p : ℕ × ℕ) → first_pair_of K c ≡ Some p → p.0 ≡ p.1 → is_diagonal K c ≡ true
is_diagonal-yes K c p e same = ap (λ (q : ℕ × ℕ). q.0 == q.1) (pair_of_class-is K c p e) ∙ eq-eqb p.0 p.1 same

pub is_diagonal-no : (K : PairColouring) (c : ℕ) (p : ℕ × ℕ) → first_pair_of K c ≡ Some p → (p.0 ≡ p.1 → ⊥) → is_diagonal K c ≡ false
is_diagonal-no K c p e other = ap (λ (q : ℕ × ℕ). q.0 == q.1) (pair_of_class-is K c p e) ∙ ne_eqb p.0 p.1 other

pub diagonal_made : (K : PairColouring) → IsConfiguration K → (mask : ℕ) → HasBits (rank_of K) mask (is_diagonal K) → IsDiagonalMask K mask
diagonal_made K h mask b = record {
  low = b.low;
  bits = λ c l.
      let p = pair_of_class-holds K h c l in (
        λ e.
            let same : (pair_of_class K c).0 ≡ (pair_of_class K c).1 = eqb-true _ _ (sym (b.bits c l) ∙ e) in
            record { x = (pair_of_class K c).0; row = p.row; is = ap (colour_at K (pair_of_class K c).0) same ∙ p.colour },
        λ d. b.bits c l ∙ eq-eqb _ _ (h.coherent.splits_diagonal d.x _ _ d.row p.row p.column (d.is ∙ sym p.colour)),
      );
}

module _ (K : PairColouring) (h : IsConfiguration K) (mask : ℕ) (low : mask < 2 ^ rank_of K) (g : IsGood K (members_of (rank_of K) mask)) where
  -- a good set with a diagonal colour has no other
  pub diagonal_whole : (diagonal : ℕ) → IsDiagonalMask K diagonal → (bit_and mask diagonal ≡ 0 → ⊥) → bit_and mask diagonal ≡ mask
  diagonal_whole diagonal d some =
      let n : ℕ = rank_of K in
      let r = common_colour n mask diagonal low some in
      common_whole n mask diagonal low (λ c l m. (d.bits c l).1
      ((good_passes K h (members_of n mask) g).diagonal r.0 c (member_in n mask r.0 r.1 r.2) (member_in n mask c l m) ((d.bits r.0 r.1).0 r.3)))

  -- a good set that meets its transposes is the set of them
  pub turned_whole : (turned : ℕ) → IsTurned K mask turned → (bit_and turned mask ≡ 0 → ⊥) → turned ≡ mask
  turned_whole turned t some =
      let n : ℕ = rank_of K in
      let r = common_colour n turned mask t.low some in
      let own : In r.0 (transposes K (members_of n mask)) = subst (In r.0) t.members (member_in n turned r.0 r.1 r.2) in
      let same = (good_passes K h (members_of n mask) g).transposed_whole r.0 (member_in n mask r.0 r.1 r.3) own in
      masks_same n turned mask t.low low (t.members ∙ sym same)

pub square_constant : (K : PairColouring) → IsConfiguration K → (set : List ℕ) → IsGood K set → IsConstantOn K set set set
square_constant K h set g = record { constant = λ k l i j. (good_passes K h set g).square k l (In_from_Contains set k i) (In_from_Contains set l j) }

-- the masks before this one whose sets are good
pub record AreGoodBefore (K : PairColouring) (mask : ℕ) (masks : List ℕ) : Type 0 where
  pub those : AreThose (IsGood K) (map (members_of (rank_of K)) (points mask)) (map (members_of (rank_of K)) masks)
  pub numbers : map bit_number (map (members_of (rank_of K)) masks) ≡ masks
  pub few : length masks ≤ mask

module _ (K : PairColouring) (m : ℕ) (masks : List ℕ) (a : AreGoodBefore K m masks) where
  abbrev f : ℕ → List ℕ
  f = members_of (rank_of K)

  walked : map f (points (m + 1)) ≡ map f (points m) ++ f m ∷ []
  walked = ap (map f) (points_more m) ∙ map-append f (points m) (m ∷ [])

  pub masks_push_yes : m < 2 ^ rank_of K → IsGood K (f m) → AreGoodBefore K (m + 1) (masks ++ m ∷ [])
  masks_push_yes l p = record {
    those = subst (λ all. AreThose (IsGood K) all (map f (masks ++ m ∷ []))) (sym walked)
        (subst (λ xs. AreThose (IsGood K) (map f (points m) ++ f m ∷ []) xs) (sym (map-append f masks (m ∷ [])))
        (those_push_yes (IsGood K) (map f (points m)) (map f masks) (f m) a.those p));
    numbers = ap (map bit_number) (map-append f masks (m ∷ []))
        ∙ map-append bit_number (map f masks) (f m ∷ [])
        ∙ (λ i. a.numbers i ++ bit_number-members (rank_of K) m l i ∷ []);
    few = omega (arith, length_push masks m, a.few);
  }

  pub masks_push_no : (IsGood K (f m) → ⊥) → AreGoodBefore K (m + 1) masks
  masks_push_no p = record {
    those = subst (λ all. AreThose (IsGood K) all (map f masks)) (sym walked) (those_push_no (IsGood K) (map f (points m)) (map f masks) (f m) a.those p);
    numbers = a.numbers;
    few = omega (arith, a.few);
  }

-- a good set may be met
good_entry : (K : PairColouring) (mask : ℕ) → rank_of K ≤ 16 → IsGood K (members_of (rank_of K) mask) → IsEntry (members_of (rank_of K) mask)
good_entry K mask small g =
    let c = good_not_empty K (members_of (rank_of K) mask) g in
    let m = in_member (rank_of K) mask c.0 c.1 in
    IsEntry-members (rank_of K) mask c.0 small m.0 m.1

-- after the walk they are the numbers of all good sets
pub masks_all : (K : PairColouring) → rank_of K ≤ 16 → (masks : List ℕ) → AreGoodBefore K (2 ^ rank_of K) masks → AreGoodNumbers K masks
masks_all K small masks a =
    let s : IsGoodSets K (map f masks) = subst (λ all. AreThose (IsGood K) all (map f masks)) (subsets_masks (rank_of K)) a.those in
    record {
      bit_numbers = λ sets g. sym a.numbers ∙ ap (map bit_number) (those_unique _ _ _ sets s g);
      masks = s;
      entries = λ k d l. good_entry K (get_or masks k d) small
          (those_hold (IsGood K) (map f (points (2 ^ rank_of K))) (map f masks) a.those (f (get_or masks k d)) (In-map f masks (get_or masks k d) (In-place masks k d l))).0;
    }
  where
    f : ℕ → List ℕ
    f = members_of (rank_of K)

-- the sets that were met
module _ (K : PairColouring) (r : ℕ) (masks : List ℕ) (met : List (List ℕ)) (e : r ≡ rank_of K) (m : AreGoodNumbers K masks) where
  whole_is : (whole : List (List ℕ)) → IsGoodSets K whole → map (members_of r) masks ≡ whole
  whole_is whole w = ap (λ n. map (members_of n) masks) e ∙ those_unique _ _ _ whole m.masks w

  pub cut_from : (room : ℕ) → met ≡ take room (map (members_of r) masks) → IsCut (IsGoodSets K) room met
  cut_from room t = record { cut = λ whole w. t ∙ ap (take room) (whole_is whole w) }

  pub front_from : met ≡ take (length met) (map (members_of r) masks) → IsFront (IsGoodSets K) met
  front_from t = record { front = λ whole w. t ∙ ap (take (length met)) (whole_is whole w) }
