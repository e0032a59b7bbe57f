-- Members of joined lists, and lists in a strict order.
use Rattle.std.proofs.Common.{◌≡◌, ◌⊎◌, List, [], ◌∷◌, ◌++◌, flat_map, AllPairs, inl, inr, ⊎_elim, refl, sym, ap, subst, ◌∙◌, arith}
use Rattle.std.specs.List.{AllByRecursion}
use Rattle.std.proofs.lemmas.List.Elements.{All-from_recursion}
use Rattle.std.proofs.lemmas.List.Kept.{AllPairs-cons}
use Rattle.pair_colours.specs.Those.{AreThose}
use Rattle.pair_colours.proofs.ListLemmas.{Each-append}
use Rattle.pair_colours.proofs.SortedLists.{In, In-append_left, In-append_right, In-append_cases, each_in, each_from_in, Ordered}

pub In-flat_map : {X Y : Type 0} (f : X → List Y) (xs : List X) (x : X) (y : Y) → In x xs → In y (f x) → In y (flat_map f xs)
In-flat_map f [] x y h k = absurd h
In-flat_map f (z ∷ xs) x y h k = ⊎_elim
    (λ e. In-append_left (f z) (flat_map f xs) y (subst (λ w. In y (f w)) e k))
    (λ i. In-append_right (f z) (flat_map f xs) y (In-flat_map f xs x y i k))
    h

pub In-flat_map_from : {X Y : Type 0} (f : X → List Y) (xs : List X) (y : Y) → In y (flat_map f xs) → (x : X) × In x xs × In y (f x)
In-flat_map_from f [] y h = absurd h
In-flat_map_from f (z ∷ xs) y h = ⊎_elim
    (λ i. (z, inl refl, i))
    (λ i. let r = In-flat_map_from f xs y i in (r.0, inr r.1, r.2))
    (In-append_cases (f z) (flat_map f xs) y h)

pub pairs_from_Ordered : {X : Type 0} (R : X → X → Type 0) (xs : List X) → Ordered R xs → AllPairs R xs
pairs_from_Ordered R [] h = λ i j d l m. absurd (omega (arith, m))
pairs_from_Ordered R (x ∷ xs) h = AllPairs-cons R x xs (All-from_recursion (R x) xs h.0) (pairs_from_Ordered R xs h.1)

pub Ordered-append : {X : Type 0} (R : X → X → Type 0) (xs ys : List X) → Ordered R xs → Ordered R ys → ((x y : X) → In x xs → In y ys → R x y) → Ordered R (xs ++ ys)
Ordered-append R [] ys a b h = b
Ordered-append R (x ∷ xs) ys a b h = (
  Each-append (R x) xs ys a.0 (each_from_in (R x) ys (λ y i. h x y (inl refl) i)),
  Ordered-append R xs ys a.1 b (λ z y i j. h z y (inr i) j),
)

-- the lists of the members in order, joined, are in order
pub Ordered-flat_map : {X Y : Type 0} (S : X → X → Type 0) (R : Y → Y → Type 0) (f : X → List Y) (xs : List X) → Ordered S xs
    → ((x : X) → Ordered R (f x)) → ((x z : X) → S x z → (a b : Y) → In a (f x) → In b (f z) → R a b) → Ordered R (flat_map f xs)
Ordered-flat_map S R f [] o each h = tt
Ordered-flat_map S R f (x ∷ xs) o each h =
    Ordered-append R (f x) (flat_map f xs) (each x) (Ordered-flat_map S R f xs o.1 each h)
    (λ a b i j. let r = In-flat_map_from f xs b j in h x r.0 (each_in (S x) xs o.0 r.0 r.1) a b i r.2)

-- a list in the order of the whole one, with just those members, is the list of them
module _ {X : Type 0} (R : X → X → Type 0) (strict : (x : X) → R x x → ⊥) (trans : (x y z : X) → R x y → R y z → R x z)
    (same_or_not : (x y : X) → (x ≡ y) ⊎ (x ≡ y → ⊥)) (P : X → Type 0) where
  -- the first of the whole list is the first of the part, or not in it
  head_in : (y : X) (all : List X) → AllByRecursion (R y) all → (x : X) (xs : List X) → AllByRecursion (R x) xs → ((z : X) → In z (x ∷ xs) → In z (y ∷ all)) → In y (x ∷ xs) → y ≡ x
  head_in y all o x xs s h i = ⊎_elim
      (λ e. e)
      (λ j. ⊎_elim
      sym
      (λ (k : In x all). absurd (strict y (trans y x y (each_in (R y) all o x k) (each_in (R x) xs s y j))))
      (h x (inl refl)))
      i

  pub those_from_members : (all xs : List X) → Ordered R all → Ordered R xs → ((x : X) → In x xs → P x × In x all) → ((x : X) → In x all → P x → In x xs) → AreThose P all xs
  those_from_members [] [] o s h k = refl
  those_from_members [] (x ∷ xs) o s h k = absurd (h x (inl refl)).1
  those_from_members (y ∷ all) [] o s h k = inr (λ p. absurd (k y (inl refl) p), those_from_members all [] o.1 s (λ x i. absurd i) (λ x i p. k x (inr i) p))
  those_from_members (y ∷ all) (x ∷ xs) o s h k = ⊎_elim
      (λ (e : y ≡ x).
      inl (
        xs,
        subst P (sym e) (h x (inl refl)).0,
        ap (λ z. z ∷ xs) (sym e),
        those_from_members all xs o.1 s.1
            (λ z i. (
              (h z (inr i)).0,
              ⊎_elim (λ (f : z ≡ y). absurd (strict x (subst (R x) (f ∙ e) (each_in (R x) xs s.0 z i)))) (λ j. j) (h z (inr i)).1,
            ))
            (λ z i p. ⊎_elim (λ (f : z ≡ x). absurd (strict y (subst (R y) (f ∙ sym e) (each_in (R y) all o.0 z i)))) (λ j. j) (k z (inr i) p)),
      ))
      (λ ne.
      let absent : In y (x ∷ xs) → ⊥ = λ i. ne (head_in y all o.0 x xs s.0 (λ z j. (h z j).1) i) in
      inr (
        λ p. absent (k y (inl refl) p),
        those_from_members all (x ∷ xs) o.1 s
            (λ z i. ((h z i).0, ⊎_elim (λ f. absurd (absent (subst (λ w. In w (x ∷ xs)) f i))) (λ j. j) (h z i).1))
            (λ z i p. k z (inr i) p),
      ))
      (same_or_not y x)
