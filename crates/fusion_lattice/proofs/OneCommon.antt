-- Of the fusions that are finer than two, one is the coarsest: the closure of the meet merges the classes as a fusion does.
use Rattle.std.proofs.Common.{◌≡◌, ℕ, ◌<◌, List, length, sym, subst, arith}
use Rattle.pair_colours.specs.Colouring.{PairColouring, Refines}
use Rattle.pair_colours.specs.Closure.{IsClosure, IsClosureOf}
use Rattle.pair_colours.specs.Naming.{rank_of}
use Rattle.pair_colours.proofs.Places.{Refines-trans}
use Rattle.struct_consts.specs.ClassData.{IsConfiguration}
use Rattle.visitors.specs.Entries.{entry_at}
use Rattle.colour_wl.specs.GrowthStrings.{IsGrowth}
use Rattle.colour_wl.specs.Fusions.{merge, IsFusion, IsFusions}
use Rattle.colour_wl.proofs.Coarser.{closed_by_fusion, one_closing}
use Rattle.colour_wl.proofs.Merged.{IsColouring-merge, refines-merge}
use Rattle.colour_wl.proofs.NamedMerges.{merge_named}
use Rattle.colour_wl.proofs.SameStrings.{same_strings}
use Rattle.fusion_lattice.specs.Common.{IsCommon, CommonOf}
use Rattle.fusion_lattice.specs.Finer.{Finer, FinerAt}
use Rattle.fusion_lattice.specs.MeetString.{IsMeetString}
use Rattle.fusion_lattice.specs.Laws.{IsMeetAt, HasOneCommon, TwoHaveOneCommon}
use Rattle.fusion_lattice.proofs.FusionPlaces.{fusion_at, fusion_length, place_of_fusion, one_place}
use Rattle.fusion_lattice.proofs.MeetStrings.{meet_string_exists, merge_meet, refines_meet, meet_is_unique}
use Rattle.fusion_lattice.proofs.Refining.{refines_from_finer, finer_from_refines}

-- growth strings that are finer than each other are the same
same_from_finer : (r : ℕ) (a b : List ℕ) → IsGrowth r a → IsGrowth r b → Finer a b → Finer b a → a ≡ b
same_from_finer r a b g k f t =
    same_strings r a b g k
    (λ i j li lj e. f.holds i j (omega (arith, li, g.len)) (omega (arith, lj, g.len)) e)
    (λ i j li lj e. t.holds i j (omega (arith, li, k.len)) (omega (arith, lj, k.len)) e)

module _ (K : PairColouring) (h : IsConfiguration K) (fusions : List (List ℕ)) (f : IsFusions K fusions) (i j : ℕ) (li : i < length fusions) (lj : j < length fusions) where
  finer_at : (p q : ℕ) → p < length fusions → Refines (merge K (entry_at fusions p)) (merge K (entry_at fusions q)) → FinerAt fusions p q
  finer_at p q l r = finer_from_refines K h (entry_at fusions p) (entry_at fusions q) (fusion_length K fusions f p l) r

  refines_at : (p q : ℕ) → p < length fusions → FinerAt fusions p q → Refines (merge K (entry_at fusions p)) (merge K (entry_at fusions q))
  refines_at p q l r = refines_from_finer K h (entry_at fusions p) (entry_at fusions q) (fusion_length K fusions f p l) r

  -- a fusion that merges K to a closure of the meet is the coarsest that is finer than both
  pub common_from_closure : (M : PairColouring) → IsMeetAt K fusions i j M → (p : ℕ) → p < length fusions → IsClosure (merge K (entry_at fusions p)) M → IsCommon fusions i j p
  common_from_closure M m p lp c = record {
    place = lp;
    first = finer_at p i lp (Refines-trans (merge K (entry_at fusions p)) M (merge K (entry_at fusions i)) c.refines m.first);
    second = finer_at p j lp (Refines-trans (merge K (entry_at fusions p)) M (merge K (entry_at fusions j)) c.refines m.second);
    coarsest = λ q lq r s.
        finer_at q p lq
        (c.coarsest (merge K (entry_at fusions q)) (IsColouring-merge K h.colouring (entry_at fusions q)) (fusion_at K fusions f q lq).coherent
        (refines_meet (merge K (entry_at fusions i)) (merge K (entry_at fusions j)) M (merge K (entry_at fusions q)) m (refines_at q i lq r) (refines_at q j lq s)));
  }

  -- and there is such a fusion
  closed_meet : (M : PairColouring) → IsMeetAt K fusions i j M → (b : List ℕ) × IsFusion K b × IsClosureOf (merge K b) M
  closed_meet M m =
      closed_by_fusion K M h m.colouring
      (refines_meet (merge K (entry_at fusions i)) (merge K (entry_at fusions j)) M K m (refines-merge K h.colouring (entry_at fusions i)) (refines-merge K h.colouring (entry_at fusions j)))

  one_common : (p q : ℕ) → IsCommon fusions i j p → IsCommon fusions i j q → p ≡ q
  one_common p q c d =
      one_place K fusions f p q c.place d.place
      (same_from_finer (rank_of K) (entry_at fusions p) (entry_at fusions q) (fusion_at K fusions f p c.place).growth (fusion_at K fusions f q d.place).growth
      (d.coarsest p c.place c.first c.second) (c.coarsest q d.place d.first d.second))

  pub has_one_common : HasOneCommon K fusions i j
  has_one_common =
      let s = meet_string_exists (rank_of K) (entry_at fusions i) (entry_at fusions j) (fusion_at K fusions f j lj).growth in
      let N : PairColouring = merge K s.0 in
      let n : IsMeetAt K fusions i j N = merge_meet K h (entry_at fusions i) (entry_at fusions j) s.0 s.1 in
      let b = closed_meet N n in
      let p = place_of_fusion K fusions f b.0 b.1 in
      let here : IsClosure (merge K (entry_at fusions p.0)) N = subst (λ t. IsClosure (merge K t) N) (sym p.2) b.2.closure in
      let every : (M : PairColouring) → IsMeetAt K fusions i j M → IsClosure (merge K (entry_at fusions p.0)) M = λ M m.
      subst (λ (T : PairColouring). IsClosure (merge K (entry_at fusions p.0)) T) (meet_is_unique (merge K (entry_at fusions i)) (merge K (entry_at fusions j)) N M n m) here in
      let common : IsCommon fusions i j p.0 = common_from_closure N n p.0 p.1 here in
      record {
        place = p.0;
        common = common;
        only = λ q c. one_common q p.0 c common;
        has_meet = (N, n);
        closure = λ M m. record { closure = every M m; named = merge_named K h (entry_at fusions p.0) (fusion_at K fusions f p.0 p.1).growth };
        string = λ M m t g c. one_closing K M h t (entry_at fusions p.0) g (fusion_at K fusions f p.0 p.1).growth c.closure (every M m);
      }

pub two_have_one_common : TwoHaveOneCommon
two_have_one_common K h fusions f i j li lj = has_one_common K h fusions f i j li lj

-- the closure of the common refinement, as the code finds it
module _ (K : PairColouring) (h : IsConfiguration K) (fusions : List (List ℕ)) (f : IsFusions K fusions) where
  pub closed_is_listed : (t m : List ℕ) → IsGrowth (rank_of K) t → IsClosureOf (merge K t) (merge K m) → (p : ℕ) × (p < length fusions) × (entry_at fusions p ≡ t)
  closed_is_listed t m g c = place_of_fusion K fusions f t (record { growth = g; coherent = c.closure.coherent })

  pub closed_is_common : (i j : ℕ) → i < length fusions → j < length fusions → (t m : List ℕ) → IsMeetString (rank_of K) (entry_at fusions i) (entry_at fusions j) m
      → IsClosureOf (merge K t) (merge K m) → (p : ℕ) → p < length fusions → entry_at fusions p ≡ t → CommonOf K i j p
  closed_is_common i j li lj t m s c p l e = record {
    fusions = fusions;
    listed = f;
    is = common_from_closure K h fusions f i j li lj (merge K m) (merge_meet K h (entry_at fusions i) (entry_at fusions j) m s) p l
        (subst (λ u. IsClosure (merge K u) (merge K m)) (sym e) c.closure);
  }
