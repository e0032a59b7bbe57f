-- Merging a named configuration by a growth string gives a named colouring.
use Rattle.std.proofs.Common.{◌≡◌, ◌==◌, ℕ, zero, suc, ◌+◌, ◌<◌, ◌≤◌, max, nat_eq, List, [], ◌∷◌, ◌++◌, length, get_or, take, map, slice_index, ⊎_elim, refl, sym, ap, ◌∙◌, arith, if◌then◌else◌}
use Rattle.std.specs.List.{AllByRecursion, list_any, position_or_len}
use Rattle.std.proofs.lemmas.Bool.{cases_lt, eq-eqb}
use Rattle.std.proofs.lemmas.List.{map-id, take_more, take_all, ext_get_or}
use Rattle.std.proofs.lemmas.List.FromFn.{get_or-range_with_len, length-range_with_len, fill_by_all}
use Rattle.indexmap.specs.IndexSet.{insert_key}
use Rattle.pair_colours.specs.Colouring.{PairColouring, IsColour, colour_at, points}
use Rattle.pair_colours.specs.Naming.{walk, first_met, colours_met, name_of, named_of, rank_of}
use Rattle.pair_colours.proofs.Closures.{met_at}
use Rattle.pair_colours.proofs.Counts.{points_more}
use Rattle.pair_colours.proofs.ListLemmas.{Each-weaker, Each-map, map_agree, map-map, list_any-points}
use Rattle.pair_colours.proofs.NamePlaces.{name_of-position}
use Rattle.pair_colours.proofs.Names.{InSquare, Each-walk, Each-colours, along}
use Rattle.pair_colours.proofs.Walked.{first_met_push}
use Rattle.struct_consts.specs.ClassData.{IsConfiguration}
use Rattle.colour_wl.proofs.Classes.{name_of_colour, colour_below, class_is_colour}
use Rattle.colour_wl.specs.GrowthStrings.{next_number, IsGrowth}
use Rattle.colour_wl.specs.Fusions.{merge}
use Rattle.colour_wl.proofs.Growth.{next_number-push, next_above}
use Rattle.colour_wl.proofs.Merged.{colour_at-merge}
use Rattle.pair_colours.proofs.MetNumbers.{first_met-map, none_in_points, position_in_points}

-- a growth string meets the numbers in their order
meets : (n : ℕ) (b : List ℕ) → IsGrowth n b → (i : ℕ) → i ≤ n → first_met (take i b) ≡ points (next_number (take i b))
meets n b g zero l = refl
meets n b g (suc i) l =
    let inside : i < length b = omega (arith, l, g.len) in
    let u : List ℕ = take i b in
    let v : ℕ = slice_index b i in
    let e : suc i ≡ i + 1 = omega arith in
    let more : take (suc i) b ≡ u ++ v ∷ [] = ap (λ k. take k b) e ∙ take_more b i 0 inside in
    let next : next_number (take (suc i) b) ≡ max (next_number u) (v + 1) = ap next_number more ∙ next_number-push u v in
    let low : v ≤ next_number u = g.grows i (omega (arith, l)) in
    let pushed : first_met (take (suc i) b) ≡ (if list_any (nat_eq v) (points (next_number u)) then points (next_number u) else points (next_number u) ++ v ∷ []) =
    ap first_met more ∙ first_met_push u v ∙ ap (λ ks. insert_key nat_eq ks v) (meets n b g i (omega (arith, l))) in
    ⊎_elim
    (λ (m : v < next_number u).
    let same : next_number u ≡ next_number (take (suc i) b) = omega (arith, next, m) in
    pushed ∙ ap (λ t. if t then points (next_number u) else points (next_number u) ++ v ∷ []) (list_any-points (nat_eq v) (next_number u) v m (eq-eqb v v refl)) ∙ ap points same)
    (λ (m : next_number u ≤ v).
    let own : v ≡ next_number u = omega (arith, low, m) in
    let grown : next_number u + 1 ≡ next_number (take (suc i) b) = omega (arith, next, own) in
    pushed ∙ ap (λ t. if t then points (next_number u) else points (next_number u) ++ v ∷ []) (none_in_points v (next_number u) m)
    ∙ ap (λ w. points (next_number u) ++ w ∷ []) own ∙ sym (points_more (next_number u)) ∙ ap points grown)
    (cases_lt v (next_number u))

pub first_met-growth : (n : ℕ) (b : List ℕ) → IsGrowth n b → first_met b ≡ points (next_number b)
first_met-growth n b g =
    let all : take n b ≡ b = take_all n b (omega (arith, g.len)) in
    ap first_met (sym all) ∙ meets n b g n (omega arith) ∙ ap (λ l. points (next_number l)) all

-- the colours of a configuration are met in their order
pub colours_met-configuration : (K : PairColouring) → IsConfiguration K → colours_met K ≡ points (rank_of K)
colours_met-configuration K h =
    ext_get_or 0 (colours_met K) (points (rank_of K)) (sym (length-range_with_len 0 (rank_of K)))
    (λ k l.
    let u = class_is_colour K h k l in
    let here : get_or (colours_met K) (name_of K k) 0 ≡ k = (met_at K k u).1 in
    let there : get_or (points (rank_of K)) k 0 ≡ k = omega (arith, get_or-range_with_len 0 (rank_of K) k 0 l) in
    ap (λ i. get_or (colours_met K) i 0) (sym (name_of_colour K h k u)) ∙ here ∙ sym there)

-- the merged colours are met in their order
colours_met-merge : (K : PairColouring) → IsConfiguration K → (b : List ℕ) → IsGrowth (rank_of K) b → colours_met (merge K b) ≡ points (next_number b)
colours_met-merge K h b g =
    let images : along (merge K b) ≡ map (slice_index b) (along K) =
    map_agree (λ p. colour_at (merge K b) p.0 p.1) (λ p. slice_index b (colour_at K p.0 p.1)) (walk K.size)
    (Each-weaker (InSquare K.size) (λ p. colour_at (merge K b) p.0 p.1 ≡ slice_index b (colour_at K p.0 p.1)) (λ p l. colour_at-merge K h.colouring b p.0 p.1 l.0 l.1) (walk K.size) (Each-walk K.size))
    ∙ sym (map-map (slice_index b) (λ p. colour_at K p.0 p.1) (walk K.size)) in
    let whole : map (slice_index b) (points (rank_of K)) ≡ b = sym (fill_by_all (slice_index b) b (rank_of K) 0 g.len (λ k l. refl)) in
    ap first_met images
    ∙ first_met-map (slice_index b) (along K)
    ∙ ap (λ ks. first_met (map (slice_index b) ks)) (colours_met-configuration K h)
    ∙ ap first_met whole
    ∙ first_met-growth (rank_of K) b g

pub merge_named : (K : PairColouring) → IsConfiguration K → (b : List ℕ) → IsGrowth (rank_of K) b → named_of (merge K b) ≡ merge K b
merge_named K h b g =
    let M : PairColouring = merge K b in
    let kept : (c : ℕ) → c < rank_of K → name_of M (slice_index b c) ≡ slice_index b c = λ c l.
    name_of-position M (slice_index b c)
    ∙ ap (position_or_len (λ y. slice_index b c == y)) (colours_met-merge K h b g)
    ∙ position_in_points (next_number b) (slice_index b c) (next_above b c (omega (arith, l, g.len))) in
    let each : (cs : List ℕ) → AllByRecursion (IsColour K) cs → AllByRecursion (λ c. name_of M c ≡ c) (map (slice_index b) cs) = λ cs u.
    Each-map (λ c. name_of M c ≡ c) (slice_index b) cs (Each-weaker (IsColour K) (λ c. name_of M (slice_index b c) ≡ slice_index b c) (λ c v. kept c (colour_below K h c v)) cs u) in
    let colours : map (name_of M) M.colours ≡ M.colours = map_agree (name_of M) (λ c. c) M.colours (each K.colours (Each-colours K h.colouring)) ∙ map-id M.colours in
    λ i. record { size = K.size; colours = colours i }
