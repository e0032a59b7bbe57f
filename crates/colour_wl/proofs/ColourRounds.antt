-- A round on colours is a round of the merged colouring.
use Rattle.std.proofs.Common.{◌≡◌, ◌==◌, ℕ, zero, suc, ◌+◌, ◌^◌, ◌<◌, ◌≤◌, Bool, true, false, List, [], ◌∷◌, ◌++◌, length, take, map, slice_index, All, Vec, Global, Option, Some, None, IfSome, IfNone, IsTrue, is_some, not, ◌↔◌, ⊎_elim, refl, sym, ap, subst, ◌∙◌, arith, if◌then◌else◌}
use Rattle.std.specs.List.{AllByRecursion}
use Rattle.std.specs.List.Sorted.{IsPermutation, IsSorted}
use Rattle.std.specs.Ordering.{nat_cmp}
use Rattle.std.specs.Int.{from_bool}
use Rattle.std.specs.Str.{bytes_eq}
use Rattle.std.proofs.lemmas.Slice.Eq.{bytes_eq-Decides}
use Rattle.std.proofs.lemmas.List.{append_assoc, take_more}
use Rattle.std.proofs.lemmas.List.Elements.{All-from_recursion, recursion_from_All}
use Rattle.std.proofs.lemmas.List.Sorted.{IsPermutation-trans, IsNonDecreasingBy-from_sort}
use Rattle.pair_colours.specs.Colouring.{PairColouring, FitsColouring, IsColour, Refines, colour_at}
use Rattle.pair_colours.specs.Closure.{Coherent}
use Rattle.pair_colours.specs.Naming.{rank_of, first_pair_of}
use Rattle.pair_colours.specs.IntersectionNumber.{pair_of_class}
use Rattle.pair_colours.specs.Rounds.{IsRound}
use Rattle.pair_colours.specs.SideCodes.{side_codes}
use Rattle.pair_colours.proofs.ListLemmas.{Each-map}
use Rattle.pair_colours.proofs.Names.{Each-colours}
use Rattle.pair_colours.proofs.Measure.{alike_places, fewer_or_refines}
use Rattle.pair_colours.proofs.Rounds.{IsOnTheWay, on_the_way-start, alike_in}
use Rattle.struct_consts.specs.ClassData.{IsConfiguration}
use Rattle.colour_wl.proofs.Classes.{colour_at-below, colour_below, pair_of_class-holds, pair_of_class-is}
use Rattle.colour_wl.specs.Signature.{IsSignature}
use Rattle.colour_wl.proofs.Codes.{signature_of, flag_is, Alike-from_signature, signature_of-alike}
use Rattle.colour_wl.specs.GrowthStrings.{next_number, IsGrowth}
use Rattle.colour_wl.specs.Fusions.{merge}
use Rattle.colour_wl.specs.BlockSums.{transposed}
use Rattle.colour_wl.proofs.Growth.{next_number-push}
use Rattle.colour_wl.proofs.Numbered.{IsNumberedTo, shared_key, same_number}
use Rattle.colour_wl.proofs.SameStrings.{same_strings}
use Rattle.colour_wl.specs.Rounds.{IsForcedRound}
use Rattle.colour_wl.proofs.ForcedRounds.{refines_forced}
use Rattle.colour_wl.proofs.Merged.{colour_at-merge, IsColouring-merge, refines-merge}

-- each number of a growth string is at most its place
pub next_low : (n : ℕ) (a : List ℕ) → IsGrowth n a → (i : ℕ) → i ≤ n → next_number (take i a) ≤ i
next_low n a g zero l = omega arith
next_low n a g (suc i) l =
    let inside : i < length a = omega (arith, l, g.len) in
    let e : suc i ≡ i + 1 = omega arith in
    omega (arith, next_low n a g i (omega (arith, l)), g.grows i (omega (arith, l)), ap (λ k. next_number (take k a)) e, ap next_number (take_more a i 0 inside), next_number-push (take i a) (slice_index a i))

pub growth_low : (n : ℕ) (a : List ℕ) → IsGrowth n a → (i : ℕ) → i < n → slice_index a i ≤ i
growth_low n a g i l = omega (arith, g.grows i l, next_low n a g i (omega (arith, l)))

-- a merged colouring is one that the program could keep
pub FitsColouring-merge : (K : PairColouring) → FitsColouring K → IsConfiguration K → (a : List ℕ) → IsGrowth (rank_of K) a → FitsColouring (merge K a)
FitsColouring-merge K f h a g = record {
  colouring = IsColouring-merge K h.colouring a;
  limit = f.limit;
  numbers = All-from_recursion (λ c. c < 2 ^ 32) (map (slice_index a) K.colours)
      (Each-map (λ c. c < 2 ^ 32) (slice_index a) K.colours
      (each_small K.colours (Each-colours K h.colouring) (recursion f.numbers)));
}
  where
    recursion : All (λ c. c < 2 ^ 32) K.colours → AllByRecursion (λ c. c < 2 ^ 32) K.colours
    recursion s = recursion_from_All (λ c. c < 2 ^ 32) K.colours s

    each_small : (cs : List ℕ) → AllByRecursion (IsColour K) cs → AllByRecursion (λ c. c < 2 ^ 32) cs → AllByRecursion (λ c. slice_index a c < 2 ^ 32) cs
    each_small [] u s = tt
    each_small (c ∷ cs) u s = (omega (arith, growth_low (rank_of K) a g c (colour_below K h c u.0), s.0), each_small cs u.1 s.1)

-- what the function returns
pub signature_made : (K : PairColouring) → IsConfiguration K → (a : List ℕ) (k t flag own turned : ℕ) (pair : ℕ × ℕ) (codes sorted out : List ℕ) → k < rank_of K
    → first_pair_of K k ≡ Some pair → transposed K k ≡ t → flag ≡ from_bool (pair.0 == pair.1) → own ≡ slice_index a k → turned ≡ slice_index a t
    → IsPermutation (side_codes (merge K a) (pair_of_class K k).0 (pair_of_class K k).1) codes → IsPermutation codes sorted → IsSorted nat_cmp sorted
    → out ≡ ((sorted ++ flag ∷ []) ++ own ∷ []) ++ turned ∷ [] → IsSignature (merge K a) (pair_of_class K k).0 (pair_of_class K k).1 out
signature_made K h a k t flag own turned pair codes sorted out l first trans f o u p q up e =
    let c = pair_of_class-holds K h k l in
    let x : ℕ = (pair_of_class K k).0 in
    let y : ℕ = (pair_of_class K k).1 in
    let same : pair_of_class K k ≡ pair = pair_of_class-is K k pair first in
    let flag_at : flag ≡ (if x == y then 1 else 0) = f ∙ flag_is (pair.0 == pair.1) ∙ ap (λ (z : ℕ × ℕ). if z.0 == z.1 then 1 else 0) (sym same) in
    let own_at : own ≡ colour_at (merge K a) x y = o ∙ ap (slice_index a) (sym c.colour) ∙ sym (colour_at-merge K h.colouring a x y c.row c.column) in
    let turned_at : turned ≡ colour_at (merge K a) y x = u ∙ ap (slice_index a) (sym trans) ∙ sym (colour_at-merge K h.colouring a y x c.column c.row) in
    record {
      sides = sorted;
      rising = IsNonDecreasingBy-from_sort (λ n. n) sorted up;
      of_pair = IsPermutation-trans (side_codes (merge K a) x y) codes sorted p q;
      is = e ∙ (λ i. ((sorted ++ flag_at i ∷ []) ++ own_at i ∷ []) ++ turned_at i ∷ []) ∙ simp append_assoc;
    }

abbrev pub Keys : Type 0
Keys = List (Vec ℕ Global)

-- whether a key is a signature
abbrev pub is_key : List ℕ → Vec ℕ Global → Bool
is_key s k = bytes_eq s k.items

-- the signature of a class
abbrev pub class_signature : PairColouring → List ℕ → ℕ → List ℕ
class_signature K a k = signature_of (merge K a) (pair_of_class K k).0 (pair_of_class K k).1

-- at each pair of the class the signature is that of the class
pub signature_of-class : (K : PairColouring) → IsConfiguration K → (a : List ℕ) (x y : ℕ) → x < K.size → y < K.size → signature_of (merge K a) x y ≡ class_signature K a (colour_at K x y)
signature_of-class K h a x y hx hy =
    let p = pair_of_class-holds K h (colour_at K x y) (colour_at-below K h x y hx hy) in
    signature_of-alike (merge K a) x y _ _ (alike_in K (merge K a) h.colouring h.coherent (refines-merge K h.colouring a) x y _ _ hx hy p.row p.column (sym p.colour))

-- all classes numbered are a round of the merged colouring
pub IsRound-numbered_classes : (K : PairColouring) → FitsColouring K → IsConfiguration K → (a : List ℕ) → IsGrowth (rank_of K) a → (keys : Keys) (next : List ℕ)
    → IsNumberedTo is_key (class_signature K a) keys next (rank_of K) → IsRound (merge K a) (merge K next)
IsRound-numbered_classes K f h a g keys next d = record {
  colouring = IsColouring-merge K h.colouring next;
  sizes = refl;
  apart = λ x y u v hx hy hu hv q.
      let s = shared_key is_key (class_signature K a) keys next (rank_of K) d (colour_at K x y) (colour_at K u v) (colour_at-below K h x y hx hy) (colour_at-below K h u v hu hv)
      (sym (at x y hx hy) ∙ q ∙ at u v hu hv) in
      let key : class_signature K a (colour_at K x y) ≡ class_signature K a (colour_at K u v) = (bytes_eq-Decides _ s.0.items).0 s.1 ∙ sym ((bytes_eq-Decides _ s.0.items).0 s.2) in
      Alike-from_signature (merge K a) (FitsColouring-merge K f h a g) x y u v hy hv (signature_of-class K h a x y hx hy ∙ key ∙ sym (signature_of-class K h a u v hu hv));
  together = λ x y u v hx hy hu hv q.
      at x y hx hy
      ∙ same_number is_key (class_signature K a) keys next (rank_of K) d (colour_at K x y) (colour_at K u v) (colour_at-below K h x y hx hy) (colour_at-below K h u v hu hv)
      (sym (signature_of-class K h a x y hx hy) ∙ signature_of-alike (merge K a) x y u v q ∙ signature_of-class K h a u v hu hv)
      ∙ sym (at u v hu hv);
}
  where
    at : (x y : ℕ) → x < K.size → y < K.size → colour_at (merge K next) x y ≡ slice_index next (colour_at K x y)
    at x y hx hy = colour_at-merge K h.colouring next x y hx hy

-- a round that gives the same string finds the merged colouring coherent, and no other does
pub coherent_from_same : (K : PairColouring) (a next : List ℕ) → IsRound (merge K a) (merge K next) → next ≡ a → Coherent (merge K a)
coherent_from_same K a next r e = record {
  splits_diagonal = λ x u v hx hu hv q. (r.apart x x u v hx hx hu hv (still x x u v hx hx hu hv q)).diagonal.0 refl;
  closed_under_transpose = λ x y u v hx hy hu hv q. (r.apart x y u v hx hy hu hv (still x y u v hx hy hu hv q)).turned;
  constant_triangles = λ x y u v hx hy hu hv q. (r.apart x y u v hx hy hu hv (still x y u v hx hy hu hv q)).counts;
}
  where
    still : (x y u v : ℕ) → x < K.size → y < K.size → u < K.size → v < K.size → colour_at (merge K a) x y ≡ colour_at (merge K a) u v → colour_at (merge K next) x y ≡ colour_at (merge K next) u v
    still x y u v hx hy hu hv q = subst (λ s. colour_at (merge K s) x y ≡ colour_at (merge K s) u v) (sym e) q

-- which pairs of places have one number in two strings, from what the merged colourings refine
pub strings_refine : (K : PairColouring) → IsConfiguration K → (a b : List ℕ) → Refines (merge K a) (merge K b) → (i j : ℕ) → i < rank_of K → j < rank_of K → slice_index a i ≡ slice_index a j → slice_index b i ≡ slice_index b j
strings_refine K h a b r i j li lj e =
    let p = pair_of_class-holds K h i li in
    let q = pair_of_class-holds K h j lj in
    let at : (s : List ℕ) (x y : ℕ) → x < K.size → y < K.size → colour_at (merge K s) x y ≡ slice_index s (colour_at K x y) = colour_at-merge K h.colouring in
    ap (slice_index b) (sym p.colour)
    ∙ sym (at b _ _ p.row p.column)
    ∙ r.classes _ _ _ _ p.row p.column q.row q.column (at a _ _ p.row p.column ∙ ap (slice_index a) p.colour ∙ e ∙ ap (slice_index a) (sym q.colour) ∙ sym (at a _ _ q.row q.column))
    ∙ at b _ _ q.row q.column
    ∙ ap (slice_index b) q.colour

pub same_from_refines : (K : PairColouring) → IsConfiguration K → (a b : List ℕ) → IsGrowth (rank_of K) a → IsGrowth (rank_of K) b → Refines (merge K a) (merge K b) → Refines (merge K b) (merge K a) → a ≡ b
same_from_refines K h a b g k r s = same_strings (rank_of K) a b g k (strings_refine K h a b r) (strings_refine K h b a s)

-- a forced round of a coherent merged colouring gives the same string
pub same_from_coherent : (K : PairColouring) → IsConfiguration K → (a next : List ℕ) → IsGrowth (rank_of K) a → IsGrowth (rank_of K) next → IsForcedRound (merge K a) (merge K next) → Coherent (merge K a) → next ≡ a
same_from_coherent K h a next g k r c =
    same_from_refines K h next a k g r.refines (refines_forced (merge K a) (merge K next) (IsColouring-merge K h.colouring a) c r)

-- a forced round that gives another string leaves fewer pairs of places of one colour
pub fewer_alike : (K : PairColouring) → IsConfiguration K → (a next : List ℕ) → IsGrowth (rank_of K) a → IsGrowth (rank_of K) next → IsForcedRound (merge K a) (merge K next) → (next ≡ a → ⊥) → alike_places (merge K next) < alike_places (merge K a)
fewer_alike K h a next g k r ne =
    ⊎_elim (λ less. less) (λ same. absurd (ne (same_from_refines K h next a k g r.refines same))) (fewer_or_refines (merge K next) (merge K a) r.colouring r.refines)

-- what a round says of the string that it made
abbrev pub IsFiner : PairColouring → List ℕ → Option (Vec ℕ Global) → Type 0
IsFiner K a next =
    IfSome next (λ finer. IsGrowth (rank_of K) finer.items) × IfSome next (λ finer. IsForcedRound (merge K a) (merge K finer.items)) × IfSome next (λ finer. finer.items ≡ a → ⊥)

-- what a round answers, none where the merged colouring is coherent, is the answer of the test
pub fusion_answer : (K : PairColouring) (a : List ℕ) (next : Option (Vec ℕ Global)) (answer : Bool) → IsConfiguration K → IsGrowth (rank_of K) a
    → IfSome next (λ finer. IsGrowth (rank_of K) finer.items) → IfSome next (λ finer. IsForcedRound (merge K a) (merge K finer.items)) → IfSome next (λ finer. finer.items ≡ a → ⊥)
    → IfNone next (Coherent (merge K a)) → is_some next ≡ not answer → IsTrue answer ↔ Coherent (merge K a)
fusion_answer K a (Some next) true h g k r ne c e = cc
fusion_answer K a (Some next) false h g k r ne c e = (λ t. cc, λ m. absurd (ne (same_from_coherent K h a next.items g k r m)))
fusion_answer K a None true h g k r ne c e = (λ t. c, λ m. refl)
fusion_answer K a None false h g k r ne c e = cc

pub on_the_way-merge : (K : PairColouring) → IsConfiguration K → (a b : List ℕ) → b ≡ a → IsOnTheWay (merge K a) (merge K b)
on_the_way-merge K h a b e = subst (λ s. IsOnTheWay (merge K a) (merge K s)) (sym e) (on_the_way-start (merge K a) (IsColouring-merge K h.colouring a))
