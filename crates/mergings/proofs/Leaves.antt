-- The string of blocks that cover all colours.
use Rattle.std.proofs.Common.{◌≡◌, ◌==◌, ◌⊎◌, ℕ, ◌<◌, true, false, List, [], ◌∷◌, length, filter, slice_index, inl, inr, ⊎_elim, refl, sym, ap, subst, ◌∙◌, arith}
use Rattle.std.proofs.lemmas.Bool.{eqb-true}
use Rattle.std.proofs.lemmas.Bool.Decides.{Decides-eqb, Decides-like, same_from_decides}
use Rattle.pair_colours.specs.Colouring.{PairColouring, points}
use Rattle.pair_colours.specs.Naming.{rank_of}
use Rattle.pair_colours.specs.IntersectionNumber.{pair_of_class}
use Rattle.struct_consts.specs.ClassData.{IsConfiguration}
use Rattle.colour_wl.specs.BlockSums.{places_of, product_at, transposed, IsDiagonalColour}
use Rattle.colour_wl.specs.Fusions.{IsFusion}
use Rattle.colour_wl.specs.GrowthStrings.{IsGrowth}
use Rattle.colour_wl.proofs.Classes.{pair_of_class-holds}
use Rattle.colour_wl.proofs.Merged.{transposed-everywhere, coherent_from_blocks}
use Rattle.colour_wl.proofs.SameStrings.{same_strings}
use Rattle.good_subsets.proofs.Blocks.{transposed-below}
use Rattle.good_subsets.proofs.MaskBits.{find_below}
use Rattle.visitors.specs.Masks.{is_member}
use Rattle.mergings.specs.Searches.{block_at, AreHeads, HasBlocks, IsHead, AreConstant, AreSound, IsOfHeads}
use Rattle.pair_colours.proofs.ListLemmas.{filter_points_agree}

filter_none : (xs : List ℕ) → filter (λ _. false) xs ≡ []
filter_none [] = refl
filter_none (x ∷ xs) = filter_none xs

module _ (K : PairColouring) (h : IsConfiguration K) (heads : List ℕ) (covered : ℕ) (string : List ℕ) (t : AreHeads (rank_of K) heads covered)
    (all : (c : ℕ) → c < rank_of K → is_member covered c ≡ true) (g : IsGrowth (rank_of K) string) (s : IsOfHeads heads string) where
  inside : (c : ℕ) → c < rank_of K → c < length string
  inside c l = omega (arith, l, g.len)

  heads_same : (c d : ℕ) → c < rank_of K → d < rank_of K → slice_index string c ≡ slice_index string d → slice_index heads c ≡ slice_index heads d
  heads_same c d lc ld e = (s.same c d (inside c lc) (inside d ld)).0 e

  numbers_same : (c d : ℕ) → c < rank_of K → d < rank_of K → slice_index heads c ≡ slice_index heads d → slice_index string c ≡ slice_index string d
  numbers_same c d lc ld e = (s.same c d (inside c lc) (inside d ld)).1 e

  head_is : (c : ℕ) → c < rank_of K → IsHead heads covered (slice_index heads c)
  head_is c l = record { has = t.kept c l (all c l); own = t.again c l }

  head_below : (c : ℕ) → c < rank_of K → slice_index heads c < rank_of K
  head_below c l = omega (arith, t.low c l, l)

  -- the places of a number are a block, or there are none
  block_or_none : (u : ℕ) → ((c : ℕ) × (c < rank_of K) × (places_of string u ≡ block_at (rank_of K) heads (slice_index heads c))) ⊎ (places_of string u ≡ [])
  block_or_none u = ⊎_elim
      (λ r. inl (r.0, r.1, same r.0 r.1 (eqb-true _ _ r.2)))
      (λ none. inr (ap (λ m. filter (λ c. slice_index string c == u) (points m)) g.len ∙ filter_points_agree (λ c. slice_index string c == u) (λ _. false) (rank_of K) none ∙ filter_none (points (rank_of K))))
      (find_below (λ c. slice_index string c == u) (rank_of K))
    where
      same : (c : ℕ) → c < rank_of K → slice_index string c ≡ u → places_of string u ≡ block_at (rank_of K) heads (slice_index heads c)
      same c l e =
          ap (λ m. filter (λ d. slice_index string d == u) (points m)) g.len
          ∙ filter_points_agree (λ d. slice_index string d == u) (λ d. slice_index heads d == slice_index heads c) (rank_of K)
          (λ d m. same_from_decides _ _
          (Decides-eqb (slice_index string d) u)
          (Decides-like _
          (λ q. numbers_same d c m l q ∙ e)
          (λ q. heads_same d c m l (q ∙ sym e))
          (Decides-eqb (slice_index heads d) (slice_index heads c))))

  products_same : AreConstant K heads covered → (k l : ℕ) → k < rank_of K → l < rank_of K → slice_index string k ≡ slice_index string l
      → (u v : ℕ) → product_at K (places_of string u) (places_of string v) k ≡ product_at K (places_of string u) (places_of string v) l
  products_same a k l lk ll e u v = ⊎_elim
      (λ x. ⊎_elim
      (λ y.
      let at : (m : ℕ) → m < rank_of K → product_at K (places_of string u) (places_of string v) m ≡ product_at K (places_of string u) (places_of string v) (slice_index heads m) = λ m lm.
      (λ i. product_at K (x.2 i) (y.2 i) m)
      ∙ (a.each (slice_index heads x.0) (head_below x.0 x.1) (head_is x.0 x.1)).each (slice_index heads y.0) m (head_below y.0 y.1) lm (head_is y.0 y.1)
      ∙ (λ i. product_at K (sym x.2 i) (sym y.2 i) (slice_index heads m)) in
      at k lk ∙ ap (product_at K (places_of string u) (places_of string v)) (heads_same k l lk ll e) ∙ sym (at l ll))
      (λ none. ap (λ right. product_at K (places_of string u) right k) none ∙ ap (λ right. product_at K (places_of string u) right l) (sym none))
      (block_or_none v))
      (λ none. ap (λ left. product_at K left (places_of string v) k) none ∙ ap (λ left. product_at K left (places_of string v) l) (sym none))
      (block_or_none u)

  -- it is a fusion where the products are constant on the blocks, and their transposes are in one block
  pub leaf_fuses : AreConstant K heads covered → AreSound K heads → IsFusion K string
  leaf_fuses a o = record {
    growth = g;
    coherent = coherent_from_blocks K h string g.len (record {
      splits_diagonal = λ i j li lj e d. (o.each j lj).diagonal.1 (subst (IsDiagonalColour K) (heads_same i j li lj e) ((o.each i li).diagonal.0 d));
      closed_under_transpose = λ i j li lj. (
        λ e. numbers_same _ _ (transposed-below K h i li) (transposed-below K h j lj) (turn i j li lj (heads_same i j li lj e)),
        λ e.
            let li2 = transposed-below K h i li in
            let lj2 = transposed-below K h j lj in
            numbers_same i j li lj
            (ap (slice_index heads) (sym (twice i li)) ∙ turn _ _ li2 lj2 (heads_same _ _ li2 lj2 e) ∙ ap (slice_index heads) (twice j lj)),
      );
      constant_products = products_same a;
    });
  }
    where
      turn : (i j : ℕ) → i < rank_of K → j < rank_of K → slice_index heads i ≡ slice_index heads j → slice_index heads (transposed K i) ≡ slice_index heads (transposed K j)
      turn i j li lj e = (o.each i li).turned ∙ ap (λ d. slice_index heads (transposed K d)) e ∙ sym (o.each j lj).turned

      twice : (c : ℕ) → c < rank_of K → transposed K (transposed K c) ≡ c
      twice c l = let p = pair_of_class-holds K h c l in transposed-everywhere K h (pair_of_class K c).1 (pair_of_class K c).0 p.column p.row ∙ p.colour

  -- and it is each fusion that has the blocks
  pub leaf_is : (a : List ℕ) → IsGrowth (rank_of K) a → HasBlocks (rank_of K) a heads covered → a ≡ string
  leaf_is a ga w = same_strings (rank_of K) a string ga g
      (λ i j li lj e. numbers_same i j li lj ((w.each i j li lj (all i li)).0 e))
      (λ i j li lj e. (w.each i j li lj (all i li)).1 (heads_same i j li lj e))
