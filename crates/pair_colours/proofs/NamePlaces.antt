-- The name of a class is its place among the colours met.
use Rattle.std.proofs.Common.{◌≡◌, ◌==◌, ◌||◌, ℕ, ◌+◌, ◌<◌, Bool, true, false, not, cond, ltb, List, [], ◌∷◌, length, map, filter, count_by, ⊎_elim, ◌⊎◌, inl, inr, refl, sym, ap, subst, ◌∙◌, arith}
use Rattle.std.specs.List.{AllByRecursion, list_any, position_or_len}
use Rattle.std.proofs.lemmas.Bool.{cases_Bool, cases_eq, eq-eqb, eqb-true, ne_eqb, lt-ltb, le-ltb, or_left, not_from_false}
use Rattle.std.proofs.lemmas.Map.Views.{any-filter_same}
use Rattle.pair_colours.specs.Colouring.{PairColouring, colour_at}
use Rattle.pair_colours.specs.Naming.{walk, first_met, colours_met, name_of, first_place_of}
use Rattle.pair_colours.proofs.Counts.{unit_of, count_by-cons}
use Rattle.pair_colours.proofs.ListLemmas.{Each-filter, Each-weaker, Each-passed}

-- the first place of a number in a list
abbrev place_in : List ℕ → ℕ → ℕ
place_in xs c = position_or_len (λ y. y == c) xs

place_in-head : (x c : ℕ) (xs : List ℕ) → x ≡ c → place_in (x ∷ xs) c ≡ 0
place_in-head x c xs e = ap (λ b. cond (not b) (1 + place_in xs c) 0) (eq-eqb x c e)

place_in-tail : (x c : ℕ) (xs : List ℕ) → (x ≡ c → ⊥) → place_in (x ∷ xs) c ≡ 1 + place_in xs c
place_in-tail x c xs ne = ap (λ b. cond (not b) (1 + place_in xs c) 0) (ne_eqb x c ne)

position_or_len-map : {X Y : Type 0} (p : Y → Bool) (f : X → Y) (xs : List X) → position_or_len p (map f xs) ≡ position_or_len (λ x. p (f x)) xs
position_or_len-map p f [] = refl
position_or_len-map p f (x ∷ xs) = ap (λ n. cond (not (p (f x))) (1 + n) 0) (position_or_len-map p f xs)

-- the keys of a list rise
abbrev Rises : (ℕ → ℕ) → List ℕ → Type 0
Rises key [] = Unit {0}
Rises key (k ∷ ks) = AllByRecursion (λ y. key k < key y) ks × Rises key ks

-- a filter keeps rising keys, also where what passes has keys of one more
Rises-filter : (key more : ℕ → ℕ) (q : ℕ → Bool) → ((y : ℕ) → q y ≡ true → more y ≡ 1 + key y) → (ks : List ℕ) → Rises key ks → Rises more (filter q ks)
Rises-filter key more q next [] r = tt
Rises-filter key more q next (k ∷ ks) r = by (q k) refl (Rises-filter key more q next ks r.1)
  where
    by : (b : Bool) → q k ≡ b → Rises more (filter q ks) → Rises more (filter q (k ∷ ks))
    by true e again =
        let above = Each-weaker (λ y. (key k < key y) × (q y ≡ true)) (λ y. more k < more y) (λ y h. omega (arith, h.0, next y h.1, next k e)) (filter q ks) (Each-passed (λ y. key k < key y) q ks r.0) in
        subst (λ b. Rises more (cond b (k ∷ filter q ks) (filter q ks))) (sym e) (above, again)
    by false e again = subst (λ b. Rises more (cond b (k ∷ filter q ks) (filter q ks))) (sym e) again

differs : (x y : ℕ) → not (x == y) ≡ true → x ≡ y → ⊥
differs x y h e = let z : not (x == y) ≡ false = ap not (eq-eqb x y e) in cc

-- the numbers met stand in the order of their first places
Rises-first_met : (xs : List ℕ) → Rises (place_in xs) (first_met xs)
Rises-first_met [] = tt
Rises-first_met (x ∷ xs) =
    let next : (y : ℕ) → not (x == y) ≡ true → place_in (x ∷ xs) y ≡ 1 + place_in xs y = λ y h. place_in-tail x y xs (differs x y h) in
    let some : AllByRecursion (λ _. Unit {0}) (first_met xs) = all_unit (first_met xs) in (
      Each-weaker (λ y. Unit {0} × (not (x == y) ≡ true)) (λ y. place_in (x ∷ xs) x < place_in (x ∷ xs) y)
          (λ y h. omega (arith, next y h.1, place_in-head x x xs refl)) (filter (λ y. not (x == y)) (first_met xs)) (Each-passed (λ _. Unit {0}) (λ y. not (x == y)) (first_met xs) some),
      Rises-filter (place_in xs) (place_in (x ∷ xs)) (λ y. not (x == y)) next (first_met xs) (Rises-first_met xs),
    )
  where
    all_unit : (ks : List ℕ) → AllByRecursion (λ _. Unit {0}) ks
    all_unit [] = tt
    all_unit (k ∷ ks) = (tt, all_unit ks)

-- each number met is in the list
Each-met_inside : (xs : List ℕ) → AllByRecursion (λ y. place_in xs y < length xs) (first_met xs)
Each-met_inside [] = tt
Each-met_inside (x ∷ xs) = (
  omega (arith, place_in-head x x xs refl),
  Each-filter (λ y. place_in (x ∷ xs) y < length (x ∷ xs)) (λ y. not (x == y)) (first_met xs)
      (Each-weaker (λ y. place_in xs y < length xs) (λ y. place_in (x ∷ xs) y < length (x ∷ xs)) (λ y h. low y h) (first_met xs) (Each-met_inside xs)),
)
  where
    low : (y : ℕ) → place_in xs y < length xs → place_in (x ∷ xs) y < length (x ∷ xs)
    low y h = ⊎_elim (λ e. omega (arith, place_in-head x y xs e)) (λ ne. omega (arith, h, place_in-tail x y xs ne)) (cases_eq x y)

-- a number that is not met is not in the list
place_in-absent : (xs : List ℕ) (c : ℕ) → list_any (λ y. c == y) (first_met xs) ≡ false → place_in xs c ≡ length xs
place_in-absent [] c h = refl
place_in-absent (x ∷ xs) c h =
    let ne : c ≡ x → ⊥ = λ e. let z : list_any (λ y. c == y) (first_met (x ∷ xs)) ≡ true = or_left (c == x) (list_any (λ y. c == y) (filter (λ y. not (x == y)) (first_met xs))) (eq-eqb c x e) in cc in
    let rest : list_any (λ y. c == y) (filter (λ y. not (x == y)) (first_met xs)) ≡ false =
    sym (ap (λ b. b || list_any (λ y. c == y) (filter (λ y. not (x == y)) (first_met xs))) (ne_eqb c x ne)) ∙ h in
    let again = place_in-absent xs c (sym (any-filter_same (λ y. c == y) (λ y. not (x == y)) true
    (λ k e. not_from_false (x == k) (ne_eqb x k (λ s. ne (eqb-true c k e ∙ sym s)))) (first_met xs)) ∙ rest) in
    omega (arith, place_in-tail x c xs (λ e. ne (sym e)), again)

-- what holds of each element holds of one that is there
any_holds : (P : ℕ → Type 0) (c : ℕ) (ks : List ℕ) → AllByRecursion P ks → list_any (λ y. c == y) ks ≡ true → P c
any_holds P c [] a h = cc
any_holds P c (k ∷ ks) a h =
    ⊎_elim (λ e. subst P (sym e) a.0)
    (λ ne. any_holds P c ks a.1 (sym (ap (λ b. b || list_any (λ y. c == y) ks) (ne_eqb c k ne)) ∙ h))
    (cases_eq c k)

none_before : (key : ℕ → ℕ) (c : ℕ) (ks : List ℕ) → AllByRecursion (λ y. key c < key y) ks → count_by (λ y. ltb (key y) (key c)) ks ≡ 0
none_before key c [] a = refl
none_before key c (k ∷ ks) a =
    omega (arith, count_by-cons (λ y. ltb (key y) (key c)) k ks, none_before key c ks a.1, ap unit_of (le-ltb (key k) (key c) (omega (arith, a.0))))

-- where keys rise, as many are below that of c as stand before c
count_before : (key : ℕ → ℕ) (c : ℕ) (ks : List ℕ) → Rises key ks → (list_any (λ y. c == y) ks ≡ true) ⊎ AllByRecursion (λ y. key y < key c) ks
    → count_by (λ y. ltb (key y) (key c)) ks ≡ position_or_len (λ y. c == y) ks
count_before key c [] r h = refl
count_before key c (k ∷ ks) r h = ⊎_elim here (there (count_before key c ks r.1)) (cases_eq c k)
  where
    here : c ≡ k → count_by (λ y. ltb (key y) (key c)) (k ∷ ks) ≡ position_or_len (λ y. c == y) (k ∷ ks)
    here e =
        let none = none_before key c ks (subst (λ z. AllByRecursion (λ y. key z < key y) ks) (sym e) r.0) in
        let own = ap unit_of (le-ltb (key k) (key c) (omega (arith, ap key e))) in
        let first : position_or_len (λ y. c == y) (k ∷ ks) ≡ 0 = ap (λ b. cond (not b) (1 + position_or_len (λ y. c == y) ks) 0) (eq-eqb c k e) in
        omega (arith, count_by-cons (λ y. ltb (key y) (key c)) k ks, none, own, first)

    there : ((list_any (λ y. c == y) ks ≡ true) ⊎ AllByRecursion (λ y. key y < key c) ks → count_by (λ y. ltb (key y) (key c)) ks ≡ position_or_len (λ y. c == y) ks)
        → (c ≡ k → ⊥) → count_by (λ y. ltb (key y) (key c)) (k ∷ ks) ≡ position_or_len (λ y. c == y) (k ∷ ks)
    there again ne =
        let later : position_or_len (λ y. c == y) (k ∷ ks) ≡ 1 + position_or_len (λ y. c == y) ks = ap (λ b. cond (not b) (1 + position_or_len (λ y. c == y) ks) 0) (ne_eqb c k ne) in
        let inside : list_any (λ y. c == y) (k ∷ ks) ≡ true → list_any (λ y. c == y) ks ≡ true = λ e. sym (ap (λ b. b || list_any (λ y. c == y) ks) (ne_eqb c k ne)) ∙ e in
        let below : key k < key c = ⊎_elim (λ e. any_holds (λ y. key k < key y) c ks r.0 (inside e)) (λ a. a.0) h in
        let rest = again (⊎_elim (λ e. inl (inside e)) (λ a. inr a.1) h) in
        omega (arith, count_by-cons (λ y. ltb (key y) (key c)) k ks, ap unit_of (lt-ltb (key k) (key c) below), rest, later)

-- the name of a class is its place among the colours met
pub name_of-position : (A : PairColouring) (c : ℕ) → name_of A c ≡ position_or_len (λ met. c == met) (colours_met A)
name_of-position A c =
    let xs = map (λ p. colour_at A p.0 p.1) (walk A.size) in
    let same : (d : ℕ) → first_place_of A d ≡ place_in xs d = λ d. sym (position_or_len-map (λ y. y == d) (λ p. colour_at A p.0 p.1) (walk A.size)) in
    let known : (list_any (λ y. c == y) (first_met xs) ≡ true) ⊎ AllByRecursion (λ y. place_in xs y < place_in xs c) (first_met xs) =
    ⊎_elim (λ e. inl e)
    (λ e. inr (Each-weaker (λ y. place_in xs y < length xs) (λ y. place_in xs y < place_in xs c) (λ y h. omega (arith, h, place_in-absent xs c e)) (first_met xs) (Each-met_inside xs)))
    (cases_Bool (list_any (λ y. c == y) (first_met xs))) in
    (λ i. count_by (λ other. ltb (same other i) (same c i)) (colours_met A)) ∙ count_before (place_in xs) c (first_met xs) (Rises-first_met xs) known
