-- The merging by the common refinement of two strings is the meet of the two mergings.
use Rattle.std.proofs.Common.{◌≡◌, ℕ, suc, ◌+◌, ◌*◌, ◌<◌, List, [], ◌∷◌, ◌++◌, length, slice_index, refl, sym, ap, subst, ◌∙◌, arith}
use Rattle.std.proofs.lemmas.Nat.{same_from_place}
use Rattle.pair_colours.specs.Colouring.{PairColouring, Refines, colour_at}
use Rattle.pair_colours.specs.Naming.{rank_of, IsNamedMeet}
use Rattle.pair_colours.proofs.Names.{named_of-same}
use Rattle.struct_consts.specs.ClassData.{IsConfiguration}
use Rattle.colour_wl.specs.GrowthStrings.{next_number, IsGrowth}
use Rattle.colour_wl.specs.Fusions.{merge}
use Rattle.colour_wl.proofs.Classes.{colour_at-below}
use Rattle.colour_wl.proofs.ColourRounds.{growth_low}
use Rattle.colour_wl.proofs.Merged.{colour_at-merge, IsColouring-merge}
use Rattle.colour_wl.proofs.NamedMerges.{merge_named}
use Rattle.colour_wl.proofs.Growth.{next_above, next_number-push}
use Rattle.colour_wl.proofs.StringsOf.{IsStringOf, string_of, string_of_shared, string_of_fresh}
use Rattle.fusion_lattice.specs.MeetString.{IsMeetString}

-- what two strings have at a place
abbrev pub both : List ℕ → List ℕ → ℕ → ℕ × ℕ
both a b c = (slice_index a c, slice_index b c)

pub meet_from_both : (r : ℕ) (a b m : List ℕ) → IsStringOf (both a b) r m → IsMeetString r a b m
meet_from_both r a b m s = record {
  growth = s.growth;
  same = λ c d lc ld. (
    λ e. let p : both a b c ≡ both a b d = s.apart c d lc ld e in (ap (λ (z : ℕ × ℕ). z.0) p, ap (λ (z : ℕ × ℕ). z.1) p),
    λ q. s.together c d lc ld (λ i. (q.0 i, q.1 i)),
  );
}

-- the string that was made of copies
pub meet_of_copies : (r : ℕ) (a b m A B M : List ℕ) → a ≡ A → b ≡ B → M ≡ m → length A ≡ r → IsMeetString (length a) a b m → IsMeetString r A B M
meet_of_copies r a b m A B M ea eb em len s =
    subst (λ (n : ℕ). IsMeetString n A B M) (ap length ea ∙ len)
    (subst (λ (x : List ℕ). IsMeetString (length a) x B M) ea
    (subst (λ (y : List ℕ). IsMeetString (length a) a y M) eb
    (subst (λ (z : List ℕ). IsMeetString (length a) a b z) (sym em) s)))

-- two strings have a common refinement
pub meet_string_exists : (r : ℕ) (a b : List ℕ) → IsGrowth r b → (m : List ℕ) × IsMeetString r a b m
meet_string_exists r a b g =
    let s = string_of (λ c. slice_index a c * r + slice_index b c) r in
    let low : (c : ℕ) → c < r → slice_index b c < r = λ c l. omega (arith, growth_low r b g c l, l) in (
      s.0,
      record {
        growth = s.1.growth;
        same = λ c d lc ld. (
          λ e. same_from_place (slice_index a c) (slice_index b c) (slice_index a d) (slice_index b d) r (low c lc) (low d ld) (s.1.apart c d lc ld e),
          λ q. s.1.together c d lc ld (λ i. q.0 i * r + q.1 i),
        );
      },
    )

pub merge_meet : (K : PairColouring) → IsConfiguration K → (a b m : List ℕ) → IsMeetString (rank_of K) a b m → IsNamedMeet (merge K a) (merge K b) (merge K m)
merge_meet K h a b m s = record {
  colouring = IsColouring-merge K h.colouring m;
  first = record {
    sizes = refl;
    classes = λ x y u v hx hy hu hv e.
        at a x y hx hy ∙ ((s.same _ _ (low x y hx hy) (low u v hu hv)).0 (sym (at m x y hx hy) ∙ e ∙ at m u v hu hv)).0 ∙ sym (at a u v hu hv);
  };
  second = record {
    sizes = refl;
    classes = λ x y u v hx hy hu hv e.
        at b x y hx hy ∙ ((s.same _ _ (low x y hx hy) (low u v hu hv)).0 (sym (at m x y hx hy) ∙ e ∙ at m u v hu hv)).1 ∙ sym (at b u v hu hv);
  };
  together = λ x y u v hx hy hu hv ea eb.
      at m x y hx hy
      ∙ (s.same _ _ (low x y hx hy) (low u v hu hv)).1 (sym (at a x y hx hy) ∙ ea ∙ at a u v hu hv, sym (at b x y hx hy) ∙ eb ∙ at b u v hu hv)
      ∙ sym (at m u v hu hv);
  named = merge_named K h m s.growth;
}
  where
    at : (t : List ℕ) (x y : ℕ) → x < K.size → y < K.size → colour_at (merge K t) x y ≡ slice_index t (colour_at K x y)
    at t x y hx hy = colour_at-merge K h.colouring t x y hx hy

    low : (x y : ℕ) → x < K.size → y < K.size → colour_at K x y < rank_of K
    low x y hx hy = colour_at-below K h x y hx hy

-- what refines both refines their meet
pub refines_meet : (A B M Q : PairColouring) → IsNamedMeet A B M → Refines Q A → Refines Q B → Refines Q M
refines_meet A B M Q m r s =
    let to : (z : ℕ) → z < Q.size → z < M.size = λ z l. omega (arith, l, r.sizes, m.first.sizes) in
    record {
      sizes = r.sizes ∙ sym m.first.sizes;
      classes = λ x y u v hx hy hu hv e. m.together x y u v (to x hx) (to y hy) (to u hu) (to v hv) (r.classes x y u v hx hy hu hv e) (s.classes x y u v hx hy hu hv e);
    }

-- and there is only one meet
pub meet_is_unique : (A B M N : PairColouring) → IsNamedMeet A B M → IsNamedMeet A B N → M ≡ N
meet_is_unique A B M N m n =
    sym m.named ∙ named_of-same M N m.colouring n.colouring (refines_meet A B N M n m.first m.second) (refines_meet A B M N m n.first n.second) ∙ n.named

-- the steps of the loop that makes the string
module _ (a b : List ℕ) (n : ℕ) (meet : List ℕ) (next : ℕ) (s : IsStringOf (both a b) n meet) (e : next ≡ next_number meet) where
  up : suc n ≡ n + 1
  up = omega arith

  -- an earlier place has what both strings have here
  pub meet_shared : (p number : ℕ) (new : List ℕ) → p < n → slice_index a p ≡ slice_index a n → slice_index b p ≡ slice_index b n → number ≡ slice_index meet p → new ≡ meet ++ number ∷ []
      → IsStringOf (both a b) (n + 1) new × (next ≡ next_number new)
  meet_shared p number new l ea eb is more =
      let same : new ≡ meet ++ slice_index meet p ∷ [] = more ∙ ap (λ v. meet ++ v ∷ []) is in
      let low : slice_index meet p < next_number meet = next_above meet p (omega (arith, l, s.growth.len)) in (
        subst (IsStringOf (both a b) (n + 1)) (sym same) (subst (λ m. IsStringOf (both a b) m (meet ++ slice_index meet p ∷ [])) up (string_of_shared (both a b) n meet p s l (λ i. (ea i, eb i)))),
        omega (arith, e, low, next_number-push meet (slice_index meet p), ap next_number same),
      )

  -- or none has
  pub meet_fresh : (new : List ℕ) → ((p : ℕ) → p < n → slice_index a p ≡ slice_index a n → slice_index b p ≡ slice_index b n → ⊥) → new ≡ meet ++ next ∷ []
      → IsStringOf (both a b) (n + 1) new × (next + 1 ≡ next_number new)
  meet_fresh new none more =
      let same : new ≡ meet ++ next_number meet ∷ [] = more ∙ ap (λ v. meet ++ v ∷ []) e in (
        subst (IsStringOf (both a b) (n + 1)) (sym same)
            (subst (λ m. IsStringOf (both a b) m (meet ++ next_number meet ∷ [])) up
            (string_of_fresh (both a b) n meet s (λ p l q. none p l (ap (λ (z : ℕ × ℕ). z.0) q) (ap (λ (z : ℕ × ℕ). z.1) q)))),
        omega (arith, e, next_number-push meet (next_number meet), ap next_number same),
      )
