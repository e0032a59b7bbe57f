-- The list of all good sets exists: whether a set is a block of a fusion can be decided.
use Rattle.std.proofs.Common.{◌≡◌, ◌⊎◌, ℕ, List, inl, inr, ⊎_elim}
use Rattle.pair_colours.specs.Colouring.{PairColouring}
use Rattle.pair_colours.specs.Closure.{Coherent}
use Rattle.pair_colours.specs.Naming.{rank_of}
use Rattle.pair_colours.specs.Subsets.{subsets}
use Rattle.pair_colours.proofs.SortedLists.{In_from_Contains, Contains_from_In}
use Rattle.pair_colours.proofs.ThoseLemmas.{those_exist}
use Rattle.colour_wl.specs.GrowthStrings.{growth_strings}
use Rattle.colour_wl.specs.Fusions.{merge}
use Rattle.colour_wl.specs.BlockSums.{places_of}
use Rattle.colour_wl.proofs.Growth.{list_same_or_not, growth_strings_grow, growth_strings_listed}
use Rattle.colour_wl.proofs.Existing.{coherent_or_not, some_or_none}
use Rattle.good_subsets.specs.GoodSets.{IsBlock, IsGood, IsGoodSets}

-- whether a set is a block can be seen
block_or_not : (a set : List ℕ) → IsBlock a set ⊎ (IsBlock a set → ⊥)
block_or_not a set = ⊎_elim
    (λ s. inl (record { number = s.0; used = Contains_from_In a s.0 s.1; places = s.2 }))
    (λ none. inr (λ b. none b.number (In_from_Contains a b.number b.used) b.places))
    (some_or_none (λ v. set ≡ places_of a v) a (λ v. list_same_or_not set (places_of a v)))

fused_or_not : (K : PairColouring) (a set : List ℕ) → (Coherent (merge K a) × IsBlock a set) ⊎ (Coherent (merge K a) × IsBlock a set → ⊥)
fused_or_not K a set = ⊎_elim
    (λ c. ⊎_elim (λ b. inl (c, b)) (λ nb. inr (λ h. nb h.1)) (block_or_not a set))
    (λ nc. inr (λ h. nc h.0))
    (coherent_or_not (merge K a))

-- and whether it is good
pub good_or_not : (K : PairColouring) (set : List ℕ) → IsGood K set ⊎ (IsGood K set → ⊥)
good_or_not K set = ⊎_elim
    (λ s. inl (record { fusion = s.0; is_fusion = record { growth = growth_strings_grow (rank_of K) s.0 s.1; coherent = s.2.0 }; block = s.2.1 }))
    (λ none. inr (λ g. none g.fusion (growth_strings_listed (rank_of K) g.fusion g.is_fusion.growth) (g.is_fusion.coherent, g.block)))
    (some_or_none (λ a. Coherent (merge K a) × IsBlock a set) (growth_strings (rank_of K)) (λ a. fused_or_not K a set))

pub good_sets_exist : (K : PairColouring) → (sets : List (List ℕ)) × IsGoodSets K sets
good_sets_exist K = those_exist (IsGood K) (subsets (rank_of K)) (λ set _. good_or_not K set)
