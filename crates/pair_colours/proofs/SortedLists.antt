-- Membership of lists, and lists in a strict order: their members determine them.
use Rattle.std.proofs.Common.{◌≡◌, ◌⊎◌, ℕ, zero, suc, ◌+◌, ◌<◌, ◌≤◌, List, [], ◌∷◌, ◌++◌, map, AllPairs, Contains, inl, inr, ⊎_elim, refl, sym, ap, subst, ◌∙◌, arith}
use Rattle.std.specs.List.{AllByRecursion, range_with_len}
use Rattle.std.proofs.lemmas.Bool.{cases_order}
use Rattle.std.proofs.lemmas.List.Elements.{recursion_from_All}
use Rattle.pair_colours.specs.Colouring.{points}

-- x is a member of the list
abbrev pub In : {X : Type 0} → X → List X → Type 0
In x [] = ⊥
In x (y ∷ ys) = (x ≡ y) ⊎ In x ys

pub In_from_Contains : {X : Type 0} (xs : List X) (x : X) → Contains xs x → In x xs
In_from_Contains [] x (k, l, e) = absurd (omega (arith, l))
In_from_Contains (y ∷ ys) x (zero, l, e) = inl (sym e)
In_from_Contains (y ∷ ys) x (suc k, l, e) = inr (In_from_Contains ys x (k, omega (arith, l), e))

pub Contains_from_In : {X : Type 0} (xs : List X) (x : X) → In x xs → Contains xs x
Contains_from_In [] x h = absurd h
Contains_from_In (y ∷ ys) x h = ⊎_elim
    (λ e. (0, omega arith, sym e))
    (λ i. let c = Contains_from_In ys x i in (suc c.0, omega (arith, c.1), c.2))
    h

pub each_in : {X : Type 0} (P : X → Type 0) (xs : List X) → AllByRecursion P xs → (x : X) → In x xs → P x
each_in P [] a x h = absurd h
each_in P (y ∷ ys) a x h = ⊎_elim (λ e. subst P (sym e) a.0) (each_in P ys a.1 x) h

pub each_from_in : {X : Type 0} (P : X → Type 0) (xs : List X) → ((x : X) → In x xs → P x) → AllByRecursion P xs
each_from_in P [] h = tt
each_from_in P (y ∷ ys) h = (h y (inl refl), each_from_in P ys (λ x i. h x (inr i)))

pub In-append_left : {X : Type 0} (xs ys : List X) (x : X) → In x xs → In x (xs ++ ys)
In-append_left [] ys x h = absurd h
In-append_left (y ∷ xs) ys x h = ⊎_elim inl (λ i. inr (In-append_left xs ys x i)) h

pub In-append_right : {X : Type 0} (xs ys : List X) (x : X) → In x ys → In x (xs ++ ys)
In-append_right [] ys x h = h
In-append_right (y ∷ xs) ys x h = inr (In-append_right xs ys x h)

pub In-append_cases : {X : Type 0} (xs ys : List X) (x : X) → In x (xs ++ ys) → In x xs ⊎ In x ys
In-append_cases [] ys x h = inr h
In-append_cases (y ∷ xs) ys x h = ⊎_elim (λ e. inl (inl e)) (λ i. ⊎_elim (λ j. inl (inr j)) inr (In-append_cases xs ys x i)) h

pub In-map : {X Y : Type 0} (f : X → Y) (xs : List X) (x : X) → In x xs → In (f x) (map f xs)
In-map f [] x h = absurd h
In-map f (z ∷ xs) x h = ⊎_elim (λ e. inl (ap f e)) (λ i. inr (In-map f xs x i)) h

pub In-map_from : {X Y : Type 0} (f : X → Y) (xs : List X) (y : Y) → In y (map f xs) → (x : X) × In x xs × (y ≡ f x)
In-map_from f [] y h = absurd h
In-map_from f (x ∷ xs) y h = ⊎_elim (λ e. (x, inl refl, e)) (λ i. let r = In-map_from f xs y i in (r.0, inr r.1, r.2)) h

-- the points are the numbers below a bound
In-range : (a n k : ℕ) → a ≤ k → k < a + n → In k (range_with_len a n)
In-range a zero k l m = absurd (omega (arith, l, m))
In-range a (suc n) k l m = ⊎_elim
    (λ (e : k ≡ a). inl e)
    (λ ne. ⊎_elim
    (λ (o : k < a). absurd (omega (arith, o, l)))
    (λ (o : a < k). inr (In-range (a + 1) n k (omega (arith, o)) (omega (arith, m))))
    ne)
    (cases_order k a)

In-range_from : (a n k : ℕ) → In k (range_with_len a n) → (a ≤ k) × (k < a + n)
In-range_from a zero k h = absurd h
In-range_from a (suc n) k h = ⊎_elim
    (λ e. (omega (arith, e), omega (arith, e)))
    (λ i. let r = In-range_from (a + 1) n k i in (omega (arith, r.0), omega (arith, r.1)))
    h

pub In-points : (n k : ℕ) → k < n → In k (points n)
In-points n k l = In-range 0 n k (omega arith) (omega (arith, l))

pub In-points_from : (n k : ℕ) → In k (points n) → k < n
In-points_from n k i = omega (arith, (In-range_from 0 n k i).1)

-- each member stands in order with all later ones
abbrev pub Ordered : {X : Type 0} → (X → X → Type 0) → List X → Type 0
Ordered R [] = Unit {0}
Ordered R (x ∷ xs) = AllByRecursion (R x) xs × Ordered R xs

pub Ordered_from_pairs : {X : Type 0} (R : X → X → Type 0) (xs : List X) → AllPairs R xs → Ordered R xs
Ordered_from_pairs R [] h = tt
Ordered_from_pairs R (x ∷ xs) h = (
  recursion_from_All (R x) xs (λ k d l. h 0 (suc k) d (omega arith) (omega (arith, l))),
  Ordered_from_pairs R xs (λ i j d l m. h (suc i) (suc j) d (omega (arith, l)) (omega (arith, m))),
)

each_above : (a b n : ℕ) → a < b → AllByRecursion (λ k. a < k) (range_with_len b n)
each_above a b zero l = tt
each_above a b (suc n) l = (l, each_above a (b + 1) n (omega (arith, l)))

Ordered-range : (a n : ℕ) → Ordered (λ j k. j < k) (range_with_len a n)
Ordered-range a zero = tt
Ordered-range a (suc n) = (each_above a (a + 1) n (omega arith), Ordered-range (a + 1) n)

pub Ordered-points : (n : ℕ) → Ordered (λ j k. j < k) (points n)
Ordered-points n = Ordered-range 0 n

-- where the order is strict, lists in order with the same members are the same
module _ {X : Type 0} (R : X → X → Type 0) (strict : (x : X) → R x x → ⊥) (trans : (x y z : X) → R x y → R y z → R x z) where
  heads_same : (x y : X) (xs ys : List X) → AllByRecursion (R x) xs → AllByRecursion (R y) ys → In x (y ∷ ys) → In y (x ∷ xs) → x ≡ y
  heads_same x y xs ys a b h k = ⊎_elim
      (λ e. e)
      (λ i. ⊎_elim sym (λ j. absurd (strict x (trans x y x (each_in (R x) xs a y j) (each_in (R y) ys b x i)))) k)
      h

  tails_in : (x y : X) (xs ys : List X) → x ≡ y → AllByRecursion (R x) xs → ((z : X) → In z (x ∷ xs) → In z (y ∷ ys)) → (z : X) → In z xs → In z ys
  tails_in x y xs ys e a h z i = ⊎_elim
      (λ s. absurd (strict x (subst (R x) (s ∙ sym e) (each_in (R x) xs a z i))))
      (λ j. j)
      (h z (inr i))

  pub same_members : (xs ys : List X) → Ordered R xs → Ordered R ys → ((x : X) → In x xs → In x ys) → ((x : X) → In x ys → In x xs) → xs ≡ ys
  same_members [] [] a b h k = refl
  same_members [] (y ∷ ys) a b h k = absurd (k y (inl refl))
  same_members (x ∷ xs) [] a b h k = absurd (h x (inl refl))
  same_members (x ∷ xs) (y ∷ ys) a b h k =
      let e : x ≡ y = heads_same x y xs ys a.0 b.0 (h x (inl refl)) (k y (inl refl)) in
      let again = same_members xs ys a.1 b.1 (tails_in x y xs ys e a.0 h) (tails_in y x ys xs (sym e) b.0 k) in
      λ i. e i ∷ again i
