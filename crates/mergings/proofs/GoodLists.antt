-- Good masks by their least colours.
use Rattle.std.proofs.Common.{◌≡◌, ℕ, zero, suc, ◌+◌, ◌^◌, ◌<◌, ◌≤◌, false, List, [], ◌∷◌, ◌++◌, length, map, slice_index, ⊎_elim, refl, sym, ap, subst, ◌∙◌, arith}
use Rattle.std.specs.Int.{bit_at, trailing_zeros, w32}
use Rattle.std.proofs.lemmas.Bool.{cases_lt, cases_Bool, both_ways}
use Rattle.std.proofs.lemmas.List.{length_push, get_or_push, get_or_append_left}
use Rattle.std.proofs.lemmas.Nat.Bits.{bit_at-trailing_zeros, bit_at-zero}
use Rattle.std.specs.Int.Count.{trailing_of_zero}
use Rattle.pair_colours.specs.Colouring.{PairColouring}
use Rattle.pair_colours.specs.Naming.{rank_of}
use Rattle.pair_colours.specs.Subsets.{subsets, bit_number}
use Rattle.pair_colours.proofs.SortedLists.{In, In-map, In-points_from}
use Rattle.pair_colours.proofs.SubsetLemmas.{filtered_listed, subsets_are_all}
use Rattle.colour_wl.specs.BlockSums.{places_of}
use Rattle.good_subsets.specs.GoodSets.{IsBlock, IsGood, AreGoodNumbers}
use Rattle.good_subsets.proofs.BlockPlaces.{In-places_of_from}
use Rattle.good_subsets.proofs.Blocks.{own_block, good_listed}
use Rattle.good_subsets.proofs.MaskBits.{member_bit, bit_member}
use Rattle.visitors.specs.Masks.{is_member, members_of}
use Rattle.visitors.proofs.MaskSets.{member_in, in_member}
use Rattle.mergings.specs.Searches.{IsLeast, AreByLeast}
use Rattle.mergings.specs.Leasts.{AreThoseWithLeast, AreByLeastBefore}

-- the lowest set bit is the least member
no_bit : (m c : ℕ) → bit_at m c ≡ 0 → is_member m c ≡ false
no_bit m c z = ⊎_elim (λ t. absurd (omega (arith, z, member_bit m c t))) (λ f. f) (cases_Bool (is_member m c))

pub least_here : (set colour : ℕ) → set < 2 ^ 32 → colour < 32 → trailing_zeros w32 set ≡ colour → IsLeast set colour
least_here set colour s l e = ⊎_elim
    (λ (m : 0 < set).
    let t = bit_at-trailing_zeros w32 set m s in
    record {
      has = bit_member set colour (ap (bit_at set) (sym e) ∙ t.1);
      below = λ d k. no_bit set d (t.2 d (omega (arith, k, e)));
    })
    (λ (m : set ≤ 0). let z : set ≡ 0 = omega (arith, m) in absurd (omega (arith, l, e, ap (trailing_zeros w32) z ∙ trailing_of_zero 32)))
    (cases_lt 0 set)

pub here_least : (set colour : ℕ) → set < 2 ^ 32 → IsLeast set colour → trailing_zeros w32 set ≡ colour
here_least set colour s h = ⊎_elim
    (λ (m : 0 < set).
    let t = bit_at-trailing_zeros w32 set m s in
    ⊎_elim
    (λ (k : trailing_zeros w32 set < colour). absurd (both_ways _ (h.below (trailing_zeros w32 set) k) (bit_member set (trailing_zeros w32 set) t.1)))
    (λ (k : colour ≤ trailing_zeros w32 set). ⊎_elim
    (λ (q : colour < trailing_zeros w32 set). absurd (omega (arith, t.2 colour q, member_bit set colour h.has)))
    (λ (q : trailing_zeros w32 set ≤ colour). omega (arith, k, q))
    (cases_lt colour (trailing_zeros w32 set)))
    (cases_lt (trailing_zeros w32 set) colour))
    (λ (m : set ≤ 0). let z : set ≡ 0 = omega (arith, m) in absurd (omega (arith, member_bit 0 colour (ap (λ s. is_member s colour) (sym z) ∙ h.has), zero_bit colour)))
    (cases_lt 0 set)
  where
    zero_bit : (c : ℕ) → bit_at 0 c ≡ 0
    zero_bit c = bit_at-zero c

-- the masks with a least colour, mask by mask
pub least_none : (colour : ℕ) → AreThoseWithLeast [] colour []
least_none colour = record {
  some = λ j l. absurd (omega (arith, l));
  least = λ j l. absurd (omega (arith, l));
  all = λ i l. absurd (omega (arith, l));
}

module _ (masks those : List ℕ) (colour mask : ℕ) (a : AreThoseWithLeast masks colour those) where
  pub least_yes : IsLeast mask colour → AreThoseWithLeast (masks ++ mask ∷ []) colour (those ++ mask ∷ [])
  least_yes h = record {
    some = λ j l. ⊎_elim
        (λ (m : j < length those).
        let r = a.some j m in
        (r.0, omega (arith, r.1, length_push masks mask), get_or_append_left masks (mask ∷ []) 0 r.0 r.1 ∙ r.2 ∙ sym (get_or_append_left those (mask ∷ []) 0 j m)))
        (λ (m : length those ≤ j).
        let e : length those ≡ j = omega (arith, m, l, length_push those mask) in
        (length masks, omega (arith, length_push masks mask), get_or_push masks mask 0 (length masks) refl ∙ sym (get_or_push those mask 0 j e)))
        (cases_lt j (length those));
    least = λ j l. ⊎_elim
        (λ (m : j < length those). subst (λ s. IsLeast s colour) (sym (get_or_append_left those (mask ∷ []) 0 j m)) (a.least j m))
        (λ (m : length those ≤ j). let e : length those ≡ j = omega (arith, m, l, length_push those mask) in subst (λ s. IsLeast s colour) (sym (get_or_push those mask 0 j e)) h)
        (cases_lt j (length those));
    all = λ i l w. ⊎_elim
        (λ (m : i < length masks).
        let e = get_or_append_left masks (mask ∷ []) 0 i m in
        let r = a.all i m (subst (λ s. IsLeast s colour) e w) in
        (r.0, omega (arith, r.1, length_push those mask), get_or_append_left those (mask ∷ []) 0 r.0 r.1 ∙ r.2 ∙ sym e))
        (λ (m : length masks ≤ i).
        let e : length masks ≡ i = omega (arith, m, l, length_push masks mask) in
        (length those, omega (arith, length_push those mask), get_or_push those mask 0 (length those) refl ∙ sym (get_or_push masks mask 0 i e)))
        (cases_lt i (length masks));
  }

  pub least_no : (IsLeast mask colour → ⊥) → AreThoseWithLeast (masks ++ mask ∷ []) colour those
  least_no h = record {
    some = λ j l. let r = a.some j l in (r.0, omega (arith, r.1, length_push masks mask), get_or_append_left masks (mask ∷ []) 0 r.0 r.1 ∙ r.2);
    least = a.least;
    all = λ i l w. ⊎_elim
        (λ (m : i < length masks).
        let e = get_or_append_left masks (mask ∷ []) 0 i m in
        let r = a.all i m (subst (λ s. IsLeast s colour) e w) in
        (r.0, r.1, r.2 ∙ sym e))
        (λ (m : length masks ≤ i).
        let e : length masks ≡ i = omega (arith, m, l, length_push masks mask) in
        absurd (h (subst (λ s. IsLeast s colour) (get_or_push masks mask 0 i e) w)))
        (cases_lt i (length masks));
  }

-- colour by colour
pub by_least_more : (masks : List ℕ) (colour : ℕ) (goods : List (List ℕ)) (those : List ℕ) → AreByLeastBefore masks colour goods → AreThoseWithLeast masks colour those → AreByLeastBefore masks (colour + 1) (goods ++ those ∷ [])
by_least_more masks colour goods those a h = record {
  len = omega (arith, a.len, length_push goods those);
  each = λ c l. ⊎_elim
      (λ (m : c < colour). subst (AreThoseWithLeast masks c) (sym (get_or_append_left goods (those ∷ []) [] c (omega (arith, m, a.len)))) (a.each c m))
      (λ (m : colour ≤ c).
      let e : colour ≡ c = omega (arith, m, l) in
      subst (AreThoseWithLeast masks c) (sym (get_or_push goods those [] c (a.len ∙ e))) (subst (λ d. AreThoseWithLeast masks d those) e h))
      (cases_lt c colour);
}

-- the masks of good sets are low
in_map : (n : ℕ) (masks : List ℕ) (set : List ℕ) → In set (map (members_of n) masks) → (i : ℕ) × (i < length masks) × (set ≡ members_of n (slice_index masks i))
in_map n [] set i = absurd i
in_map n (g ∷ masks) set i = ⊎_elim
    (λ e. (0, omega arith, e))
    (λ k. let r = in_map n masks set k in (suc r.0, omega (arith, r.1), r.2))
    i

own_number : (n : ℕ) (masks : List ℕ) → masks ≡ map bit_number (map (members_of n) masks) → (i : ℕ) → i < length masks → slice_index masks i ≡ bit_number (members_of n (slice_index masks i))
own_number n masks e i l =
    ap (λ all. slice_index all i) e ∙ at masks i l
  where
    at : (all : List ℕ) (i : ℕ) → i < length all → slice_index (map bit_number (map (members_of n) all)) i ≡ bit_number (members_of n (slice_index all i))
    at [] i l = absurd (omega (arith, l))
    at (m ∷ all) zero l = refl
    at (m ∷ all) (suc i) l = at all i (omega (arith, l))

number_low : (n mask : ℕ) → bit_number (members_of n mask) < 2 ^ n
number_low n mask =
    In-points_from (2 ^ n) (bit_number (members_of n mask))
    (subst (In (bit_number (members_of n mask))) (subsets_are_all.in_order n) (In-map bit_number (subsets n) (members_of n mask) (filtered_listed (is_member mask) n)))

good_low : (K : PairColouring) (masks : List ℕ) → AreGoodNumbers K masks → (i : ℕ) → i < length masks → slice_index masks i < 2 ^ rank_of K
good_low K masks g i l =
    let e = own_number (rank_of K) masks (g.bit_numbers (map (members_of (rank_of K)) masks) g.masks) i l in
    omega (arith, e, number_low (rank_of K) (slice_index masks i))

pub by_least_all : (K : PairColouring) (masks : List ℕ) (goods : List (List ℕ)) → AreGoodNumbers K masks → AreByLeastBefore masks (rank_of K) goods → AreByLeast K goods
by_least_all K masks goods g a = record {
  len = a.len;
  low = λ c j l m. let r = (a.each c l).some j m in subst (λ s. s < 2 ^ rank_of K) r.2 (good_low K masks g r.0 r.1);
  least = λ c j l m. (a.each c l).least j m;
  has = λ f c w l none.
      let n : ℕ = rank_of K in
      let block : List ℕ = places_of f (slice_index f c) in
      let own = own_block f c (omega (arith, l, w.growth.len)) in
      let good : IsGood K block = record { fusion = f; is_fusion = w; block = own.0 } in
      let at = in_map n masks block (good_listed K (map (members_of n) masks) g.masks block good) in
      let mask : ℕ = slice_index masks at.0 in
      let least : IsLeast mask c = record {
        has = (in_member n mask c (subst (In c) at.2 own.1)).1;
        below = λ d k. ⊎_elim
            (λ t. absurd (none d k (In-places_of_from f (slice_index f c) d (subst (In d) (sym at.2) (member_in n mask d (omega (arith, k, l)) t))).1))
            (λ q. q)
            (cases_Bool (is_member mask d));
      } in
      let r = (a.each c l).all at.0 at.1 least in
      (r.0, r.1, subst (λ s. IsBlock f (members_of n s)) (sym r.2) (subst (IsBlock f) at.2 own.0));
}

pub by_least_none : (masks : List ℕ) → AreByLeastBefore masks 0 []
by_least_none masks = record { len = refl; each = λ c l. absurd (omega (arith, l)) }
