-- Lists that rise: two of them with the same elements are equal.
use Rattle.std.proofs.Common.{◌≡◌, ◌⊎◌, ℕ, ◌+◌, ◌<◌, ◌≤◌, Bool, true, false, cond, List, [], ◌∷◌, ◌++◌, length, get_or, map, filter, inl, inr, refl, sym, ap, subst, ◌∙◌, arith}
use Rattle.std.specs.Prelude.{AllPairs, All, Any}
use Rattle.std.specs.List.{flat_map, range_with_len}
use Rattle.std.proofs.lemmas.Bool.{cases_eq}
use Prim.Native.Nat.{zero, suc}

-- x is an element of the list
abbrev pub Among : {X : Type 0} → X → List X → Type 0
Among x [] = ⊥
Among x (y ∷ ys) = (x ≡ y) ⊎ Among x ys

-- R holds of each element and each later one
abbrev pub Rises : {X : Type 0} → (X → X → Type 0) → List X → Type 0
Rises R [] = Unit {0}
Rises {X} R (x ∷ xs) = ((y : X) → Among y xs → R x y) × Rises R xs

module _ {X : Type 0} where
  pub Among-left : (x : X) (xs ys : List X) → Among x xs → Among x (xs ++ ys)
  Among-left x [] ys m = absurd m
  Among-left x (z ∷ xs) ys m = elim m [ inl e ↦ inl e | inr l ↦ inr (Among-left x xs ys l) ]

  pub Among-right : (x : X) (xs ys : List X) → Among x ys → Among x (xs ++ ys)
  Among-right x [] ys m = m
  Among-right x (z ∷ xs) ys m = inr (Among-right x xs ys m)

  pub Among-append : (x : X) (xs ys : List X) → Among x (xs ++ ys) → Among x xs ⊎ Among x ys
  Among-append x [] ys m = inr m
  Among-append x (z ∷ xs) ys m = elim m [
    | inl e ↦ inl (inl e)
    | inr l ↦ elim (Among-append x xs ys l) [ inl a ↦ inl (inr a) | inr b ↦ inr b ]
  ]

  -- what a filter keeps
  pub Among-filter : (p : X → Bool) (x : X) (xs : List X) → Among x (filter p xs) → Among x xs × (p x ≡ true)
  Among-filter p x [] m = absurd m
  Among-filter p x (z ∷ xs) m = by (p z) refl (Among-filter p x xs) m
    where
      by : (b : Bool) → p z ≡ b → (Among x (filter p xs) → Among x xs × (p x ≡ true)) → Among x (cond b (z ∷ filter p xs) (filter p xs))
          → ((x ≡ z) ⊎ Among x xs) × (p x ≡ true)
      by true e rest k = elim k [ inl s ↦ (inl s, ap p s ∙ e) | inr l ↦ (inr (rest l).0, (rest l).1) ]
      by false e rest k = (inr (rest k).0, (rest k).1)

  pub filter-Among : (p : X → Bool) (x : X) (xs : List X) → Among x xs → p x ≡ true → Among x (filter p xs)
  filter-Among p x [] m t = absurd m
  filter-Among p x (z ∷ xs) m t = by (p z) refl (λ l. filter-Among p x xs l t) m
    where
      by : (b : Bool) → p z ≡ b → (Among x xs → Among x (filter p xs)) → (x ≡ z) ⊎ Among x xs → Among x (cond b (z ∷ filter p xs) (filter p xs))
      by true e rest k = elim k [ inl s ↦ inl s | inr l ↦ inr (rest l) ]
      by false e rest k = elim k [ inl s ↦ absurd (cc (ap p s)) | inr l ↦ rest l ]

  -- the place of an element
  pub Among-place : (x : X) (xs : List X) → Among x xs → (k : ℕ) × (k < length xs) × ((d : X) → get_or xs k d ≡ x)
  Among-place x [] m = absurd m
  Among-place x (z ∷ xs) m = elim m [
    | inl e ↦ (0, omega arith, λ d. sym e)
    | inr l ↦ let r = Among-place x xs l in (suc r.0, omega (arith, r.1), r.2)
  ]

  pub Among-at : (xs : List X) (k : ℕ) (d : X) → k < length xs → Among (get_or xs k d) xs
  Among-at [] k d l = absurd (omega (arith, l))
  Among-at (x ∷ xs) zero d l = inl refl
  Among-at (x ∷ xs) (suc k) d l = inr (Among-at xs k d (omega (arith, l)))

  pub All-Among : (P : X → Type 0) (xs : List X) → All P xs → (x : X) → Among x xs → P x
  All-Among P xs h x m = let k = Among-place x xs m in subst P (k.2 x) (h k.0 x k.1)

  pub Among-from_any : (P : X → Type 0) (xs : List X) → Any P xs → (x : X) × Among x xs × P x
  Among-from_any P xs h = (h.1, subst (λ x. Among x xs) h.3 (Among-at xs h.0 h.1 h.2), h.4)

module _ {X : Type 0} (R : X → X → Type 0) where
  -- no two elements are each before the other, so the heads are one
  pub rising_same : ((x y : X) → R x y → R y x → ⊥) → (xs ys : List X) → Rises R xs → Rises R ys
      → ((x : X) → Among x xs → Among x ys) → ((x : X) → Among x ys → Among x xs) → xs ≡ ys
  rising_same apart [] [] a b to from = refl
  rising_same apart [] (y ∷ ys) a b to from = absurd (from y (inl refl))
  rising_same apart (x ∷ xs) [] a b to from = absurd (to x (inl refl))
  rising_same apart (x ∷ xs) (y ∷ ys) a b to from =
      let heads : x ≡ y = elim (to x (inl refl)) [
        | inl e ↦ e
        | inr l ↦ elim (from y (inl refl)) [ inl e ↦ sym e | inr m ↦ absurd (apart x y (a.0 y m) (b.0 x l)) ]
      ] in
      let once : (z : X) → R z z → ⊥ = λ z r. apart z z r r in
      let tails : xs ≡ ys = rising_same apart xs ys a.1 b.1
      (λ z m. elim (to z (inr m)) [ inl e ↦ absurd (once x (subst (R x) (e ∙ sym heads) (a.0 z m))) | inr l ↦ l ])
      (λ z m. elim (from z (inr m)) [ inl e ↦ absurd (once y (subst (R y) (e ∙ heads) (b.0 z m))) | inr l ↦ l ]) in
      λ i. heads i ∷ tails i

  pub Rises-append : (xs ys : List X) → Rises R xs → Rises R ys → ((x y : X) → Among x xs → Among y ys → R x y) → Rises R (xs ++ ys)
  Rises-append [] ys a b across = b
  Rises-append (x ∷ xs) ys a b across = (
    λ y m. elim (Among-append y xs ys m) [ inl l ↦ a.0 y l | inr r ↦ across x y (inl refl) r ],
    Rises-append xs ys a.1 b (λ u v l r. across u v (inr l) r),
  )

  pub Rises-filter : (p : X → Bool) (xs : List X) → Rises R xs → Rises R (filter p xs)
  Rises-filter p [] h = tt
  Rises-filter p (x ∷ xs) h = by (p x) (Rises-filter p xs h.1)
    where
      by : (b : Bool) → Rises R (filter p xs) → Rises R (cond b (x ∷ filter p xs) (filter p xs))
      by true r = (λ y m. h.0 y (Among-filter p y xs m).0, r)
      by false r = r

  -- a list in which each two places rise
  pub Rises-from_pairs : (xs : List X) → AllPairs R xs → Rises R xs
  Rises-from_pairs [] h = tt
  Rises-from_pairs (x ∷ xs) h = (
    λ y m. let k = Among-place y xs m in subst (R x) (k.2 y) (h 0 (suc k.0) y (omega arith) (omega (arith, k.1))),
    Rises-from_pairs xs (λ i j d l m. h (suc i) (suc j) d (omega (arith, l)) (omega (arith, m))),
  )

module _ {X Y : Type 0} where
  pub Among-map : (f : X → Y) (y : Y) (xs : List X) → Among y (map f xs) → (x : X) × Among x xs × (y ≡ f x)
  Among-map f y [] m = absurd m
  Among-map f y (x ∷ xs) m = elim m [
    | inl e ↦ (x, inl refl, e)
    | inr l ↦ let r = Among-map f y xs l in (r.0, inr r.1, r.2)
  ]

  pub map-Among : (f : X → Y) (x : X) (xs : List X) → Among x xs → Among (f x) (map f xs)
  map-Among f x [] m = absurd m
  map-Among f x (z ∷ xs) m = elim m [ inl e ↦ inl (ap f e) | inr l ↦ inr (map-Among f x xs l) ]

  pub Among-flat_map : (f : X → List Y) (y : Y) (xs : List X) → Among y (flat_map f xs) → (x : X) × Among x xs × Among y (f x)
  Among-flat_map f y [] m = absurd m
  Among-flat_map f y (x ∷ xs) m = elim (Among-append y (f x) (flat_map f xs) m) [
    | inl l ↦ (x, inl refl, l)
    | inr l ↦ let r = Among-flat_map f y xs l in (r.0, inr r.1, r.2)
  ]

  pub flat_map-Among : (f : X → List Y) (x : X) (y : Y) (xs : List X) → Among x xs → Among y (f x) → Among y (flat_map f xs)
  flat_map-Among f x y [] m h = absurd m
  flat_map-Among f x y (z ∷ xs) m h = elim m [
    | inl e ↦ Among-left y (f z) (flat_map f xs) (subst (λ w. Among y (f w)) e h)
    | inr l ↦ Among-right y (f z) (flat_map f xs) (flat_map-Among f x y xs l h)
  ]

  module _ (R : X → X → Type 0) (S : Y → Y → Type 0) where
    pub Rises-map : (f : X → Y) → ((x y : X) → R x y → S (f x) (f y)) → (xs : List X) → Rises R xs → Rises S (map f xs)
    Rises-map f keeps [] h = tt
    Rises-map f keeps (x ∷ xs) h = (
      λ y m. let r = Among-map f y xs m in subst (S (f x)) (sym r.2) (keeps x r.0 (h.0 r.0 r.1)),
      Rises-map f keeps xs h.1,
    )

    pub Rises-flat_map : (f : X → List Y) → ((x : X) → Rises S (f x)) → ((x y : X) → R x y → (u v : Y) → Among u (f x) → Among v (f y) → S u v)
        → (xs : List X) → Rises R xs → Rises S (flat_map f xs)
    Rises-flat_map f each across [] h = tt
    Rises-flat_map f each across (x ∷ xs) h =
        Rises-append S (f x) (flat_map f xs) (each x) (Rises-flat_map f each across xs h.1)
        (λ u v a b. let r = Among-flat_map f v xs b in across x r.0 (h.0 r.0 r.1) u v a r.2)

-- the numbers of a range
pub Among-range : (a n z : ℕ) → Among z (range_with_len a n) → (a ≤ z) × (z < a + n)
Among-range a zero z m = absurd m
Among-range a (suc n) z m = elim m [
  | inl e ↦ (omega (arith, e), omega (arith, e))
  | inr l ↦ let r = Among-range (a + 1) n z l in (omega (arith, r.0), omega (arith, r.1))
]

pub range-Among : (a n z : ℕ) → a ≤ z → z < a + n → Among z (range_with_len a n)
range-Among a zero z l h = absurd (omega (arith, l, h))
range-Among a (suc n) z l h = elim (cases_eq z a) [
  | inl e ↦ inl e
  | inr ne ↦ inr (range-Among (a + 1) n z (omega (arith, l, ne)) (omega (arith, h)))
]

pub Rises-range : (a n : ℕ) → Rises (λ x y. x < y) (range_with_len a n)
Rises-range a zero = tt
Rises-range a (suc n) = (λ y m. let r = Among-range (a + 1) n y m in omega (arith, r.0), Rises-range (a + 1) n)
