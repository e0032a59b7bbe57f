-- What follows a fusion on the list of all fusions is the list of those after it.
use Rattle.std.proofs.Common.{ℕ, List, [], ◌∷◌, ◌++◌, inl, inr, ⊎_elim, refl, sym, subst}
use Rattle.pair_colours.specs.Colouring.{PairColouring}
use Rattle.pair_colours.specs.Closure.{Coherent}
use Rattle.pair_colours.specs.Naming.{rank_of}
use Rattle.pair_colours.proofs.SortedLists.{In, In-append_right, In-append_cases, Ordered, each_in}
use Rattle.pair_colours.proofs.ThoseLemmas.{those_hold, those_has, those_in_order}
use Rattle.colour_wl.specs.GrowthStrings.{growth_strings, IsBefore}
use Rattle.colour_wl.specs.Fusions.{merge, IsFusions, IsFusionsAfter}
use Rattle.colour_wl.proofs.Growth.{IsBefore-strict, IsBefore-trans, list_same_or_not, Ordered-growth_from}
use Rattle.colour_wl.proofs.Members.{those_from_members}

-- what comes after one of the list is the list of those that come after it
pub fusions_resumed : (K : PairColouring) (front rest : List (List ℕ)) (after : List ℕ) → IsFusions K (front ++ after ∷ rest) → IsFusionsAfter K after rest
fusions_resumed K front rest after f =
    let all : List (List ℕ) = growth_strings (rank_of K) in
    let o : Ordered IsBefore all = Ordered-growth_from (rank_of K) [] in
    let p = those_in_order IsBefore (λ a. Coherent (merge K a)) all (front ++ after ∷ rest) o f in
    let q = ordered_right front (after ∷ rest) p in
    those_from_members IsBefore IsBefore-strict IsBefore-trans list_same_or_not (λ a. IsBefore after a × Coherent (merge K a)) all rest o q.1
    (λ a i. let r = those_hold (λ a. Coherent (merge K a)) all (front ++ after ∷ rest) f a (In-append_right front (after ∷ rest) a (inr i)) in ((each_in (IsBefore after) rest q.0 a i, r.0), r.1))
    (λ a i c. ⊎_elim
    (λ (j : In a front). absurd (IsBefore-strict a (IsBefore-trans a after a (ordered_across front (after ∷ rest) p a after j (inl refl)) c.0)))
    (λ (j : In a (after ∷ rest)). ⊎_elim (λ e. absurd (IsBefore-strict a (subst (λ b. IsBefore b a) (sym e) c.0))) (λ k. k) j)
    (In-append_cases front (after ∷ rest) a (those_has (λ a. Coherent (merge K a)) all (front ++ after ∷ rest) f a i c.1)))
  where
    ordered_right : (xs ys : List (List ℕ)) → Ordered IsBefore (xs ++ ys) → Ordered IsBefore ys
    ordered_right [] ys o = o
    ordered_right (x ∷ xs) ys o = ordered_right xs ys o.1

    ordered_across : (xs ys : List (List ℕ)) → Ordered IsBefore (xs ++ ys) → (a b : List ℕ) → In a xs → In b ys → IsBefore a b
    ordered_across [] ys o a b i j = absurd i
    ordered_across (x ∷ xs) ys o a b i j = ⊎_elim
        (λ e. subst (λ c. IsBefore c b) (sym e) (each_in (IsBefore x) (xs ++ ys) o.0 b (In-append_right xs ys b j)))
        (λ k. ordered_across xs ys o.1 a b k j)
        i
