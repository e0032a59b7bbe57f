-- The lists of all fusions and of those after a string exist: coherence and the order can be decided.
use Rattle.std.proofs.Common.{◌≡◌, ◌⊎◌, ℕ, zero, suc, ◌<◌, ◌≤◌, true, false, List, [], ◌∷◌, length, slice_index, inl, inr, ⊎_elim, refl, sym, ap, subst, ◌∙◌, arith}
use Rattle.std.proofs.lemmas.Bool.{cases_Bool, cases_eq, cases_lt}
use Rattle.std.proofs.lemmas.List.{get_or_past}
use Rattle.pair_colours.specs.Colouring.{PairColouring, colour_at, points}
use Rattle.pair_colours.specs.Closure.{Coherent}
use Rattle.pair_colours.specs.Naming.{rank_of}
use Rattle.pair_colours.specs.Rounds.{Alike, alike}
use Rattle.pair_colours.proofs.Exists.{Decides-alike}
use Rattle.pair_colours.proofs.Reaching.{all_below}
use Rattle.pair_colours.proofs.SortedLists.{In, In-points}
use Rattle.pair_colours.proofs.ThoseLemmas.{those_exist}
use Rattle.colour_wl.specs.GrowthStrings.{growth_strings, IsBefore}
use Rattle.colour_wl.specs.Fusions.{merge, IsFusions, IsFusionsAfter}

-- pairs of one colour are alike
abbrev AlikeWhereSame : PairColouring → ℕ → ℕ → ℕ → ℕ → Type 0
AlikeWhereSame P x y u v = colour_at P x y ≡ colour_at P u v → Alike P x y u v

alike_or_not : (P : PairColouring) (x y u v : ℕ) → AlikeWhereSame P x y u v ⊎ (AlikeWhereSame P x y u v → ⊥)
alike_or_not P x y u v = ⊎_elim
    (λ e. ⊎_elim
    (λ t. inl (λ _. (Decides-alike P x y u v).0 t))
    (λ f. inr (λ h. let z : true ≡ false = sym ((Decides-alike P x y u v).1 (h e)) ∙ f in cc))
    (cases_Bool (alike P x y u v)))
    (λ ne. inl (λ e. absurd (ne e)))
    (cases_eq (colour_at P x y) (colour_at P u v))

-- the pairs of one colour are alike exactly where the colouring is coherent
pub coherent_or_not : (P : PairColouring) → Coherent P ⊎ (Coherent P → ⊥)
coherent_or_not P = ⊎_elim
    (λ all. inl (record {
      splits_diagonal = λ x u v hx hu hv e. (all x hx x hx u hu v hv e).diagonal.0 refl;
      closed_under_transpose = λ x y u v hx hy hu hv e. (all x hx y hy u hu v hv e).turned;
      constant_triangles = λ x y u v hx hy hu hv e. (all x hx y hy u hu v hv e).counts;
    }))
    (λ none. inr (λ h. none (λ x hx y hy u hu v hv e. record {
      diagonal = (
        λ d. h.splits_diagonal x u v hx hu hv (ap (colour_at P x) d ∙ e),
        λ d. h.splits_diagonal u x y hu hx hy (ap (colour_at P u) d ∙ sym e),
      );
      own = e;
      turned = h.closed_under_transpose x y u v hx hy hu hv e;
      counts = h.constant_triangles x y u v hx hy hu hv e;
    })))
    (all_below (λ x. (y : ℕ) → y < P.size → (u : ℕ) → u < P.size → (v : ℕ) → v < P.size → AlikeWhereSame P x y u v) P.size
    (λ x hx. all_below (λ y. (u : ℕ) → u < P.size → (v : ℕ) → v < P.size → AlikeWhereSame P x y u v) P.size
    (λ y hy. all_below (λ u. (v : ℕ) → v < P.size → AlikeWhereSame P x y u v) P.size
    (λ u hu. all_below (λ v. AlikeWhereSame P x y u v) P.size (λ v hv. alike_or_not P x y u v)))))

-- one of the list has the property, or none has
pub some_or_none : {X : Type 0} (P : X → Type 0) (all : List X) → ((x : X) → P x ⊎ (P x → ⊥)) → ((x : X) × In x all × P x) ⊎ ((x : X) → In x all → P x → ⊥)
some_or_none P [] d = inr (λ x i p. absurd i)
some_or_none P (y ∷ all) d =
    let again = some_or_none P all d in
    ⊎_elim
    (λ p. inl (y, inl refl, p))
    (λ np. ⊎_elim
    (λ s. inl (s.0, inr s.1, s.2))
    (λ none. inr (λ x i p. ⊎_elim (λ e. np (subst P e p)) (λ j. none x j p) i))
    again)
    (d y)

-- the order can be tested
same_or_not_below : (a b : List ℕ) (n : ℕ) → ((i : ℕ) → i < n → slice_index a i ≡ slice_index b i) ⊎ (((i : ℕ) → i < n → slice_index a i ≡ slice_index b i) → ⊥)
same_or_not_below a b zero = inl (λ i l. absurd (omega (arith, l)))
same_or_not_below a b (suc n) =
    let again = same_or_not_below a b n in
    ⊎_elim
    (λ s. ⊎_elim
    (λ e. inl (λ i l. ⊎_elim (s i) (λ (m : n ≤ i). let q : i ≡ n = omega (arith, l, m) in ap (slice_index a) q ∙ e ∙ ap (slice_index b) (sym q)) (cases_lt i n)))
    (λ ne. inr (λ h. ne (h n (omega arith))))
    (cases_eq (slice_index a n) (slice_index b n)))
    (λ ns. inr (λ h. ns (λ i l. h i (omega (arith, l)))))
    again

abbrev BeforeAt : List ℕ → List ℕ → ℕ → Type 0
BeforeAt a b place = ((i : ℕ) → i < place → slice_index a i ≡ slice_index b i) × (slice_index a place < slice_index b place)

before_at_or_not : (a b : List ℕ) (place : ℕ) → BeforeAt a b place ⊎ (BeforeAt a b place → ⊥)
before_at_or_not a b place = ⊎_elim
    (λ s. ⊎_elim
    (λ (l : slice_index a place < slice_index b place). inl (s, l))
    (λ (l : slice_index b place ≤ slice_index a place). inr (λ h. absurd (omega (arith, h.1, l))))
    (cases_lt (slice_index a place) (slice_index b place)))
    (λ ns. inr (λ h. ns h.0))
    (same_or_not_below a b place)

pub before_or_not : (a b : List ℕ) → IsBefore a b ⊎ (IsBefore a b → ⊥)
before_or_not a b = ⊎_elim
    (λ s. inl (record { place = s.0; same = s.2.0; less = s.2.1 }))
    (λ none. inr (λ h. none h.place (In-points (length b) h.place (inside h)) (h.same, h.less)))
    (some_or_none (BeforeAt a b) (points (length b)) (before_at_or_not a b))
  where
    inside : (h : IsBefore a b) → h.place < length b
    inside h = ⊎_elim
        (λ l. l)
        (λ (l : length b ≤ h.place). absurd (omega (arith, h.less, get_or_past b h.place 0 l)))
        (cases_lt h.place (length b))

both_or_not : (P Q : Type 0) → P ⊎ (P → ⊥) → Q ⊎ (Q → ⊥) → (P × Q) ⊎ (P × Q → ⊥)
both_or_not P Q p q = ⊎_elim (λ x. ⊎_elim (λ y. inl (x, y)) (λ n. inr (λ h. n h.1)) q) (λ n. inr (λ h. n h.0)) p

-- each colouring has one list of fusions, and one of those after a string
pub fusions_exist : (K : PairColouring) → (fusions : List (List ℕ)) × IsFusions K fusions
fusions_exist K = those_exist (λ a. Coherent (merge K a)) (growth_strings (rank_of K)) (λ a _. coherent_or_not (merge K a))

pub fusions_after_exist : (K : PairColouring) (after : List ℕ) → (fusions : List (List ℕ)) × IsFusionsAfter K after fusions
fusions_after_exist K after = those_exist (λ a. IsBefore after a × Coherent (merge K a)) (growth_strings (rank_of K))
    (λ a _. both_or_not (IsBefore after a) (Coherent (merge K a)) (before_or_not after a) (coherent_or_not (merge K a)))
