-- The places of a number in a string.
use Rattle.std.proofs.Common.{◌≡◌, ◌==◌, ℕ, ◌<◌, ◌≤◌, ltb, List, length, take, filter, Contains, slice_index, sym, ◌∙◌, arith}
use Rattle.std.proofs.lemmas.Bool.{eqb-true, eq-eqb, lt-ltb, ltb-true}
use Rattle.std.proofs.lemmas.Bool.Decides.{Decides-eqb, Decides-like, same_from_decides}
use Rattle.std.proofs.lemmas.List.{get_or-take, length-take-le, get_or_default}
use Rattle.pair_colours.specs.Colouring.{points}
use Rattle.pair_colours.specs.ColourSets.{is_in}
use Rattle.pair_colours.specs.Subsets.{IsSetBelow}
use Rattle.pair_colours.proofs.SortedLists.{In, In-points, In-points_from, Ordered, Ordered-points}
use Rattle.pair_colours.proofs.SubsetLemmas.{In-filter, In-filter_from, Ordered-filter, same_rising, Decides-is_in, filtered_listed, subsets_below}
use Rattle.colour_wl.specs.BlockSums.{places_of}

pub Ordered-places_of : (a : List ℕ) (v : ℕ) → Ordered (λ j k. j < k) (places_of a v)
Ordered-places_of a v = Ordered-filter (λ j k. j < k) (λ c. slice_index a c == v) (points (length a)) (Ordered-points (length a))

pub In-places_of : (a : List ℕ) (v c : ℕ) → c < length a → slice_index a c ≡ v → In c (places_of a v)
In-places_of a v c l e = In-filter (λ d. slice_index a d == v) (points (length a)) c (In-points (length a) c l) (eq-eqb (slice_index a c) v e)

pub In-places_of_from : (a : List ℕ) (v c : ℕ) → In c (places_of a v) → (c < length a) × (slice_index a c ≡ v)
In-places_of_from a v c i =
    let r = In-filter_from (λ d. slice_index a d == v) (points (length a)) c i in
    (In-points_from (length a) c r.1, eqb-true (slice_index a c) v r.0)

pub is_in-places_of : (a : List ℕ) (v c : ℕ) → c < length a → is_in (places_of a v) c ≡ (slice_index a c == v)
is_in-places_of a v c l =
    same_from_decides _ _
    (Decides-is_in (places_of a v) c)
    (Decides-like _ (λ e. In-places_of a v c l e) (λ i. (In-places_of_from a v c i).1) (Decides-eqb (slice_index a c) v))

-- a member of a list is read at its place
pub Contains_at : (a : List ℕ) (v : ℕ) → Contains a v → (k : ℕ) × (k < length a) × (slice_index a k ≡ v)
Contains_at a v (k, l, e) = (k, l, get_or_default a k 0 v l ∙ e)

pub Contains_from_at : (a : List ℕ) (v k : ℕ) → k < length a → slice_index a k ≡ v → Contains a v
Contains_from_at a v k l e = (k, l, get_or_default a k v 0 l ∙ e)

-- the places of a number below n are its places in the first n
pub places_of-take : (a : List ℕ) (n v : ℕ) → n ≤ length a → filter (λ c. ltb c n) (places_of a v) ≡ places_of (take n a) v
places_of-take a n v h =
    let len : length (take n a) ≡ n = length-take-le n a h in
    same_rising _ _
    (Ordered-filter (λ j k. j < k) (λ c. ltb c n) (places_of a v) (Ordered-places_of a v))
    (Ordered-places_of (take n a) v)
    (λ c i.
    let r = In-filter_from (λ c. ltb c n) (places_of a v) c i in
    let low : c < n = ltb-true c n r.0 in
    let s = In-places_of_from a v c r.1 in
    In-places_of (take n a) v c (omega (arith, low, len)) (get_or-take n a c 0 low ∙ s.1))
    (λ c i.
    let s = In-places_of_from (take n a) v c i in
    let low : c < n = omega (arith, s.0, len) in
    In-filter (λ c. ltb c n) (places_of a v) c (In-places_of a v c (omega (arith, low, h)) (sym (get_or-take n a c 0 low) ∙ s.1)) (lt-ltb c n low))

-- the places of a number are a set of places
pub places_below : (a : List ℕ) (v : ℕ) → IsSetBelow (length a) (places_of a v)
places_below a v = subsets_below (length a) (places_of a v) (filtered_listed (λ c. slice_index a c == v) (length a))
