-- What the search for fusions rests on.
use Rattle.std.proofs.Common.{◌≡◌, ◌==◌, ℕ, suc, ◌+◌, ◌-◌, ◌^◌, ◌<◌, ◌≤◌, true, false, bit_and, List, [], ◌∷◌, ◌++◌, length, get_or, slice_index, AllPairs, Contains, inl, inr, ⊎_elim, sym, ap, subst, ◌∙◌, arith}
use Rattle.std.proofs.lemmas.Bool.{cases_lt, eqb-true, both_ways}
use Rattle.std.proofs.lemmas.Nat.{and_comm}
use Rattle.std.proofs.lemmas.List.{get_or-take}
use Rattle.std.proofs.lemmas.List.Elements.{Contains-append_left, Contains-push_cases}
use Rattle.std.specs.List.Sorted.{IsPermutation}
use Rattle.std.proofs.lemmas.List.Sorted.{Contains-permutation, IsPermutation-sym}
use Rattle.pair_colours.specs.Colouring.{PairColouring}
use Rattle.pair_colours.specs.Naming.{rank_of}
use Rattle.pair_colours.specs.Those.{AreThose}
use Rattle.pair_colours.proofs.SortedLists.{In, In_from_Contains, Contains_from_In, Ordered_from_pairs}
use Rattle.colour_wl.specs.Fusions.{Fuses}
use Rattle.colour_wl.specs.GrowthStrings.{IsGrowth, IsBefore, growth_from}
use Rattle.colour_wl.proofs.Growth.{growth_begins, growth_grows, growth_listed, IsBefore-strict, IsBefore-trans, list_same_or_not, Ordered-growth_from}
use Rattle.colour_wl.proofs.Members.{pairs_from_Ordered, those_from_members}
use Rattle.good_subsets.specs.GoodSets.{IsBlock}
use Rattle.good_subsets.specs.Transposed.{IsTurned}
use Rattle.good_subsets.proofs.MaskBits.{common_colour}
use Rattle.struct_consts.specs.ClassData.{IsConfiguration}
use Rattle.visitors.specs.Masks.{is_member, members_of}
use Rattle.mergings.specs.Searches.{AreHeads, HasBlocks, AreConstant, AreByLeast, IsLeast, IsExtended, CannotJoin, IsWanted, IsCutLike, IsSearched, HasFound, IsRisingList}
use Rattle.mergings.proofs.HeadLemmas.{block_number, blocks_none, turned_block, blocks_constant}
use Rattle.mergings.proofs.SortedStrings.{ordered_by_steps}

-- a block of a wanted fusion is cut like a block of it
pub cut_like : (K : PairColouring) (prefix a : List ℕ) (set : ℕ) → length prefix ≤ rank_of K → IsWanted K prefix a → (b : IsBlock a (members_of (rank_of K) set)) → IsCutLike prefix set b.number
cut_like K prefix a set l w b = λ c m.
    block_number (rank_of K) a set w.fusion.growth.len b c (omega (arith, m, l))
    ∙ ap (λ v. v == b.number) (sym (get_or-take (length prefix) a c 0 m) ∙ ap (λ s. slice_index s c) w.begins)

-- the least colour that is not covered is the least of its block
pub free_is_least : (n : ℕ) (a heads : List ℕ) (covered free : ℕ) → AreHeads n heads covered → HasBlocks n a heads covered → free < n → ((c : ℕ) → c < free → is_member covered c ≡ true) → is_member covered free ≡ false
    → (d : ℕ) → d < free → slice_index a d ≡ slice_index a free → ⊥
free_is_least n a heads covered free h w l all f d m e =
    let inside : d < n = omega (arith, m, l) in
    let same : slice_index heads d ≡ free = (w.each d free inside l (all d m)).0 e ∙ h.free free l f in
    both_ways _ f (subst (λ c. is_member covered c ≡ true) same (h.kept d inside (all d m)))

-- what a search adds
pub searched_none : (K : PairColouring) (prefix : List ℕ) (old : List (List ℕ)) → IsSearched K prefix old old
searched_none K prefix old = record { kept = λ a c. c; only = λ a c. inl c }

pub searched_more : (K : PairColouring) (prefix : List ℕ) (old mid new : List (List ℕ)) → IsSearched K prefix old mid → IsSearched K prefix mid new → IsSearched K prefix old new
searched_more K prefix old mid new s t = record {
  kept = λ a c. t.kept a (s.kept a c);
  only = λ a c. ⊎_elim (s.only a) inr (t.only a c);
}

pub searched_push : (K : PairColouring) (prefix a : List ℕ) (old : List (List ℕ)) → IsWanted K prefix a → IsSearched K prefix old (old ++ a ∷ [])
searched_push K prefix a old w = record {
  kept = λ b c. Contains-append_left old (a ∷ []) b c;
  only = λ b c. ⊎_elim inl (λ e. inr (subst (IsWanted K prefix) e w)) (Contains-push_cases old a b c);
}

-- a list of strings that begin with u, in lexicographic order, with just those members that have the property
those_found : (u : List ℕ) (n : ℕ) (P : List ℕ → Type 0) (found : List (List ℕ)) → AllPairs IsBefore found
    → ((a : List ℕ) → In a found → P a × In a (growth_from u n)) → ((a : List ℕ) → In a (growth_from u n) → P a → In a found) → AreThose P (growth_from u n) found
those_found u n P found o h k =
    those_from_members IsBefore IsBefore-strict IsBefore-trans list_same_or_not P (growth_from u n) found (Ordered-growth_from n u) (Ordered_from_pairs IsBefore found o) h k

-- what was found is the list of those wanted
pub extensions_found : (K : PairColouring) (prefix : List ℕ) (found : List (List ℕ)) → IsGrowth (length prefix) prefix → length prefix ≤ rank_of K → IsSearched K prefix [] found → (heads : List ℕ) → HasFound K prefix heads 0 found
    → (sorted : List (List ℕ)) → IsPermutation found sorted → IsRisingList sorted → AreThose (Fuses K) (growth_from prefix (rank_of K - length prefix)) sorted
extensions_found K prefix found g l s heads f sorted p o =
    let n : ℕ = rank_of K - length prefix in
    let whole : length prefix + n ≡ rank_of K = omega (arith, l) in
    let e : (k : ℕ) → k + 1 ≡ suc k = λ k. omega arith in
    those_found prefix n (Fuses K) sorted
    (pairs_from_Ordered IsBefore sorted (ordered_by_steps sorted (λ k m. subst (λ j. IsBefore (get_or sorted k []) (get_or sorted j [])) (e k) (o k (omega (arith, m))))))
    (λ a i.
    let w : IsWanted K prefix a = ⊎_elim (λ c. absurd (let z = c.1 in omega (arith, z))) (λ w. w) (s.only a (Contains-permutation sorted found a (IsPermutation-sym found sorted p) (Contains_from_In sorted a i))) in
    (w.fusion.coherent, growth_listed n prefix a (subst (λ m. IsGrowth m a) (sym whole) w.fusion.growth) w.begins))
    (λ a i c.
    let grown : IsGrowth (rank_of K) a = subst (λ m. IsGrowth m a) whole (growth_grows n prefix a g i) in
    let w : IsWanted K prefix a = record { fusion = record { growth = grown; coherent = c }; begins = growth_begins n prefix a i } in
    In_from_Contains sorted a (Contains-permutation found sorted a p (f.has a w (blocks_none (rank_of K) a heads))))

-- each fusion that is wanted and has these blocks and one of the first sets was found
pub record HasTried (K : PairColouring) (prefix heads : List ℕ) (covered : ℕ) (sets : List ℕ) (count : ℕ) (new : List (List ℕ)) : Type 0 where
  pub has : (a : List ℕ) → IsWanted K prefix a → HasBlocks (rank_of K) a heads covered → (j : ℕ) → j < count → IsBlock a (members_of (rank_of K) (slice_index sets j)) → Contains new a

pub tried_none : (K : PairColouring) (prefix heads : List ℕ) (covered : ℕ) (sets : List ℕ) (new : List (List ℕ)) → HasTried K prefix heads covered sets 0 new
tried_none K prefix heads covered sets new = record { has = λ a w h j l. absurd (omega (arith, l)) }

module _ (K : PairColouring) (prefix heads : List ℕ) (covered : ℕ) (sets : List ℕ) (count : ℕ) (mid : List (List ℕ)) (t : HasTried K prefix heads covered sets count mid) where
  pub tried_yes : (more : List ℕ) (all : ℕ) (new : List (List ℕ)) → IsExtended K heads covered (slice_index sets count) more all → IsSearched K prefix mid new → HasFound K prefix more all new → HasTried K prefix heads covered sets (count + 1) new
  tried_yes more all new x s f = record {
    has = λ a w h j l b. ⊎_elim
        (λ (m : j < count). s.kept a (t.has a w h j m b))
        (λ (m : count ≤ j).
        let at : j ≡ count = omega (arith, m, l) in
        f.has a w (x.has a w.fusion h (subst (λ k. IsBlock a (members_of (rank_of K) (slice_index sets k))) at b)))
        (cases_lt j count);
  }

  pub tried_no : CannotJoin K prefix heads covered (slice_index sets count) → HasTried K prefix heads covered sets (count + 1) mid
  tried_no never = record {
    has = λ a w h j l b. ⊎_elim
        (λ (m : j < count). t.has a w h j m b)
        (λ (m : count ≤ j). let at : j ≡ count = omega (arith, m, l) in absurd (never a w h (subst (λ k. IsBlock a (members_of (rank_of K) (slice_index sets k))) at b)))
        (cases_lt j count);
  }

pub tried_all : (K : PairColouring) (prefix heads : List ℕ) (covered free : ℕ) (goods : List (List ℕ)) (new : List (List ℕ)) → AreByLeast K goods → AreHeads (rank_of K) heads covered → free < rank_of K
    → ((c : ℕ) → c < free → is_member covered c ≡ true) → is_member covered free ≡ false → (count : ℕ) → length (get_or goods free []) ≤ count → HasTried K prefix heads covered (get_or goods free []) count new → HasFound K prefix heads covered new
tried_all K prefix heads covered free goods new g h l all f count most t = record {
  has = λ a w b.
      let r = g.has a free w.fusion l (free_is_least (rank_of K) a heads covered free h b l all f) in
      t.has a w b r.0 (omega (arith, r.1, most)) r.2;
}

-- the tests that tell that a set is never block
pub met_no : (K : PairColouring) (prefix heads : List ℕ) (covered set head : ℕ) → AreHeads (rank_of K) heads covered → set < 2 ^ rank_of K → IsLeast set head → head < rank_of K → is_member covered head ≡ false
    → (bit_and covered set ≡ 0 → ⊥) → CannotJoin K prefix heads covered set
met_no K prefix heads covered set head h low l inside free some a w b block =
    let r = common_colour (rank_of K) set covered low (λ z. some (and_comm covered set ∙ z)) in
    let n : ℕ = rank_of K in
    let c : ℕ = r.0 in
    let a_c : slice_index a c ≡ block.number = eqb-true _ _ (sym (block_number n a set w.fusion.growth.len block c r.1) ∙ r.2) in
    let a_h : slice_index a head ≡ block.number = eqb-true _ _ (sym (block_number n a set w.fusion.growth.len block head inside) ∙ l.has) in
    let same : slice_index heads c ≡ head = (b.each c head r.1 inside r.3).0 (a_c ∙ sym a_h) ∙ h.free head inside free in
    both_ways _ free (subst (λ d. is_member covered d ≡ true) same (h.kept c r.1 r.3))

pub cut_no : (K : PairColouring) (prefix heads : List ℕ) (covered set : ℕ) → length prefix ≤ rank_of K → ((v : ℕ) → IsCutLike prefix set v → ⊥) → CannotJoin K prefix heads covered set
cut_no K prefix heads covered set l never a w b block = never block.number (cut_like K prefix a set l w block)

pub turned_no : (K : PairColouring) → IsConfiguration K → (prefix heads : List ℕ) (covered set turned : ℕ) → length prefix ≤ rank_of K → IsTurned K set turned → ((v : ℕ) → IsCutLike prefix turned v → ⊥) → CannotJoin K prefix heads covered set
turned_no K h prefix heads covered set turned l t never a w b block =
    let other = turned_block K h a set turned w.fusion t block in
    never other.number (cut_like K prefix a turned l w other)

pub constant_no : (K : PairColouring) → IsConfiguration K → (prefix heads : List ℕ) (covered set : ℕ) (more : List ℕ) (all : ℕ) → IsExtended K heads covered set more all → (AreConstant K more all → ⊥) → CannotJoin K prefix heads covered set
constant_no K h prefix heads covered set more all x never a w b block = never (blocks_constant K h a more all w.fusion x.are (x.has a w.fusion b block))
