-- The least number that no pair has.
use Rattle.std.proofs.Common.{◌≡◌, ◌==◌, ◌||◌, ℕ, zero, suc, ◌+◌, ◌*◌, ◌<◌, ◌≤◌, Bool, true, false, not, cond, List, [], ◌∷◌, ltb, length, get_or, set, take, filter, find, position, Option, Some, None, is_some, Decides, refl, sym, ap, subst, ◌∙◌, arith, ⊎_elim}
use Rattle.std.specs.List.{AllByRecursion, list_any, position_or_len}
use Rattle.std.proofs.lemmas.Bool.{cases_Bool, cases_lt, cases_eq, eqb-true, eq-eqb, ne_eqb, lt-ltb, or_right, not-false, not_from_false, both_ways}
use Rattle.std.proofs.lemmas.Bool.Decides.{same_from_decides}
use Rattle.std.proofs.lemmas.List.Filters.{length-filter_both}
use Rattle.std.proofs.lemmas.List.Folds.{Any-from_list_any, list_any_at, list_any_more}
use Rattle.std.proofs.lemmas.List.FromFn.{get_or-range_with_len, length-range_with_len}
use Rattle.std.proofs.lemmas.List.Sums.{passes_at_first, fails_before_first, position_or_len_is}
use Rattle.std.proofs.lemmas.List.{get_or_default, get_or-set_same, get_or-set_other, take_all}
use Rattle.std.proofs.lemmas.Map.Views.{any-filter_same}
use Rattle.pair_colours.specs.Colouring.{PairColouring, IsColouring, IsColour, colour_at, points}
use Rattle.pair_colours.specs.Naming.{walk}
use Rattle.pair_colours.proofs.Places.{place_below}
use Rattle.pair_colours.proofs.Names.{InSquare, Each-walk}
use Rattle.pair_colours.proofs.FirstPair.{no_colour}
use Rattle.pair_colours.proofs.ListReads.{IsColour-at}
use Rattle.recolour_bench.specs.Recolouring.{has_colour, least_unused, IsLeastUnused}

-- what a search finds passes, and has what each element has
found_has : {X : Type 0} (p : X → Bool) (P : X → Type 0) (xs : List X) → AllByRecursion P xs → is_some (find p xs) ≡ true → (x : X) × P x × (p x ≡ true)
found_has p P [] a h = let z : false ≡ true = h in cc
found_has {X} p P (x ∷ xs) a h = by (p x) refl (found_has p P xs a.1)
  where
    by : (b : Bool) → p x ≡ b → (is_some (find p xs) ≡ true → (y : X) × P y × (p y ≡ true)) → (y : X) × P y × (p y ≡ true)
    by true e again = (x, a.0, e)
    by false e again = again (sym (ap (λ b. is_some (cond b (Some x) (find p xs))) e) ∙ h)

none_from_test : {X : Type 0} (o : Option X) → is_some o ≡ false → o ≡ None
none_from_test None h = refl
none_from_test (Some x) h = cc

pub Decides-has_colour : (C : PairColouring) (c : ℕ) → Decides (has_colour C c) (IsColour C c)
Decides-has_colour C c = (
  λ h. let w = found_has (λ p. colour_at C p.0 p.1 == c) (InSquare C.size) (walk C.size) (Each-walk C.size) h in
      record { x = w.0.0; y = w.0.1; row = w.1.0; column = w.1.1; is = eqb-true _ c w.2 },
  λ u. ⊎_elim (λ e. e) (λ e. absurd (no_colour C c (none_from_test _ e) u)) (cases_Bool (has_colour C c)),
)

-- the test over the list of colours
abbrev pub in_list : List ℕ → ℕ → Bool
in_list xs c = list_any (λ d. d == c) xs

Decides-in_list : (C : PairColouring) → IsColouring C → (c : ℕ) → Decides (in_list C.colours c) (IsColour C c)
Decides-in_list C h c = (
  λ e. let w = Any-from_list_any (λ d. d == c) C.colours e in
      let is : get_or C.colours w.0 0 ≡ c = get_or_default C.colours w.0 0 w.1 w.2 ∙ w.3 ∙ eqb-true w.1 c w.4 in
      subst (IsColour C) is (IsColour-at C h w.0 w.2),
  λ u. list_any_at (λ d. d == c) C.colours (u.x * C.size + u.y) 0 (subst (λ m. u.x * C.size + u.y < m) (sym h.has_pairs) (place_below C.size u.x u.y u.row u.column)) (eq-eqb _ c u.is),
)

pub in_list-has_colour : (C : PairColouring) → IsColouring C → (c : ℕ) → in_list C.colours c ≡ has_colour C c
in_list-has_colour C h c = same_from_decides _ _ (Decides-in_list C h c) (Decides-has_colour C c)

-- the flags of the numbers that stand before place p
abbrev pub AreFlags : List Bool → List ℕ → Type 0
AreFlags used xs = (number : ℕ) → number < length used → get_or used number false ≡ in_list xs number

or_false : (b : Bool) → (b || false) ≡ b
or_false true = refl
or_false false = refl

-- one more place: its number is flagged, where there is a flag for it
flag_other : (used : List Bool) (xs : List ℕ) (p q number : ℕ) → p < length xs → q ≡ p + 1 → AreFlags used (take p xs) → number < length used → (number ≡ get_or xs p 0 → ⊥)
    → get_or used number false ≡ in_list (take q xs) number
flag_other used xs p q number l e flags low ne =
    flags number low
    ∙ sym (ap (λ k. in_list (take k xs) number) e ∙ list_any_more (λ d. d == number) xs p 0 l
    ∙ ap (λ b. in_list (take p xs) number || b) (ne_eqb (get_or xs p 0) number (λ s. ne (sym s))) ∙ or_false (in_list (take p xs) number))

pub AreFlags-set : (used new : List Bool) (xs : List ℕ) (p q colour : ℕ) → p < length xs → q ≡ p + 1 → colour ≡ get_or xs p 0 → colour < length used → new ≡ set used colour true
    → length new ≡ length used → AreFlags used (take p xs) → AreFlags new (take q xs)
AreFlags-set used new xs p q colour l e here low s len flags number h =
    ⊎_elim
    (λ same. ap (λ bs. get_or bs number false) s ∙ ap (λ k. get_or (set used colour true) k false) same ∙ get_or-set_same used colour true false low
    ∙ sym (ap (λ k. in_list (take k xs) number) e ∙ list_any_more (λ d. d == number) xs p 0 l ∙ or_right _ _ (eq-eqb (get_or xs p 0) number (sym (same ∙ here)))))
    (λ ne. ap (λ bs. get_or bs number false) s ∙ get_or-set_other used colour number true false ne
    ∙ flag_other used xs p q number l e flags (omega (arith, h, len)) (λ t. ne (t ∙ sym here)))
    (cases_eq number colour)

pub AreFlags-kept : (used new : List Bool) (xs : List ℕ) (p q colour : ℕ) → p < length xs → q ≡ p + 1 → colour ≡ get_or xs p 0 → length used ≤ colour
    → new ≡ used → AreFlags used (take p xs) → AreFlags new (take q xs)
AreFlags-kept used new xs p q colour l e here high same flags number h =
    let low : number < length used = omega (arith, h, ap length same) in
    ap (λ bs. get_or bs number false) same ∙ flag_other used xs p q number l e flags low (λ t. omega (arith, t, here, high, low))

-- the flags of the whole list
pub AreFlags-whole : (C : PairColouring) → IsColouring C → (used : List Bool) (p : ℕ) → p ≡ C.size * C.size → AreFlags used (take p C.colours)
    → (number : ℕ) → number < length used → get_or used number false ≡ has_colour C number
AreFlags-whole C h used p e flags number low =
    flags number low
    ∙ ap (λ xs. in_list xs number) (take_all p C.colours (omega (arith, e, h.has_pairs)))
    ∙ in_list-has_colour C h number

some_passes : (p : ℕ → Bool) (xs : List ℕ) → list_any p xs ≡ true → 1 ≤ length (filter p xs)
some_passes p [] h = let z : false ≡ true = h in cc
some_passes p (x ∷ xs) h = by (p x) refl (some_passes p xs)
  where
    by : (b : Bool) → p x ≡ b → (list_any p xs ≡ true → 1 ≤ length (filter p xs)) → 1 ≤ length (cond (p x) (x ∷ filter p xs) (filter p xs))
    by true e again = subst (λ b. 1 ≤ length (cond b (x ∷ filter p xs) (filter p xs))) (sym e) (omega arith)
    by false e again = subst (λ b. 1 ≤ length (cond b (x ∷ filter p xs) (filter p xs))) (sym e) (again (sym (ap (λ b. b || list_any p xs) e) ∙ h))

-- a list that has each number below m has m places
pub pigeonhole : (m : ℕ) (xs : List ℕ) → ((c : ℕ) → c < m → in_list xs c ≡ true) → m ≤ length xs
pigeonhole zero xs h = omega arith
pigeonhole (suc m) xs h =
    let others : List ℕ = filter (λ d. not (d == m)) xs in
    let kept : (c : ℕ) → c < m → in_list others c ≡ true = λ c l.
    any-filter_same (λ d. d == c) (λ d. not (d == m)) true (λ k e. not_from_false (k == m) (ne_eqb k m (λ s. let is : k ≡ c = eqb-true k c e in omega (arith, s, is, l)))) xs
    ∙ h c (omega arith) in
    let fewer : m ≤ length others = pigeonhole m others kept in
    let one : 1 ≤ length (filter (λ d. d == m) xs) = some_passes (λ d. d == m) xs (h m (omega arith)) in
    let both : length (filter (λ d. d == m) xs) + length others ≡ length xs = length-filter_both (λ d. d == m) (λ d. not (d == m)) (λ _. refl) xs in
    omega (arith, fewer, one, both)

-- the least unused number, among n * n + 1 numbers
pub least_unused-le : (C : PairColouring) → IsColouring C → least_unused C ≤ C.size * C.size
least_unused-le C h =
    let n = C.size * C.size + 1 in
    let free : ℕ → Bool = λ number. not (has_colour C number) in
    let len : length (points n) ≡ n = length-range_with_len 0 n in
    ⊎_elim (λ l. omega (arith, l))
    (λ l. let used : (c : ℕ) → c < n → in_list C.colours c ≡ true = λ c k.
    let at : get_or (points n) c 0 ≡ c = get_or-range_with_len 0 n c 0 k ∙ omega arith in
    let fails : free c ≡ false = ap free (sym at) ∙ fails_before_first free (points n) c 0 (omega (arith, k, l)) in
    in_list-has_colour C h c ∙ not-false (has_colour C c) fails in
    absurd (omega (arith, pigeonhole n C.colours used, h.has_pairs)))
    (cases_lt (least_unused C) n)

-- no pair has it, and each smaller number is a colour
pub IsLeastUnused-least_unused : (C : PairColouring) → IsColouring C → IsLeastUnused C (least_unused C)
IsLeastUnused-least_unused C h = record {
  unused = λ u. both_ways (free (least_unused C)) (ap not ((Decides-has_colour C (least_unused C)).1 u)) passes;
  least = λ smaller l.
      let at : get_or (points n) smaller 0 ≡ smaller = get_or-range_with_len 0 n smaller 0 (omega (arith, low, l)) ∙ omega arith in
      let fails : free smaller ≡ false = ap free (sym at) ∙ fails_before_first free (points n) smaller 0 l in
      (Decides-has_colour C smaller).0 (not-false (has_colour C smaller) fails);
}
  where
    n : ℕ
    n = C.size * C.size + 1

    free : ℕ → Bool
    free number = not (has_colour C number)

    low : least_unused C < n
    low = omega (arith, least_unused-le C h)

    passes : free (least_unused C) ≡ true
    passes =
        let at : get_or (points n) (least_unused C) 0 ≡ least_unused C = get_or-range_with_len 0 n (least_unused C) 0 low ∙ omega arith in
        ap free (sym at) ∙ passes_at_first free (points n) 0 (omega (arith, low, length-range_with_len 0 n))

-- the first flag that is down is at the least unused number
pub least_unused-flag : (C : PairColouring) → IsColouring C → (used : List Bool) → length used ≡ C.size * C.size + 1 → ((number : ℕ) → number < length used → get_or used number false ≡ has_colour C number)
    → position_or_len not used ≡ least_unused C
least_unused-flag C h used len flags =
    let least = IsLeastUnused-least_unused C h in
    position_or_len_is not used (least_unused C) false (omega (arith, len, least_unused-le C h))
    (λ k l. ap not (flags k (omega (arith, l, len, least_unused-le C h)) ∙ (Decides-has_colour C k).1 (least.least k l)))
    (λ l. ap not (flags (least_unused C) l) ∙ not_from_false _ (absent (has_colour C (least_unused C)) (λ e. least.unused ((Decides-has_colour C (least_unused C)).0 e))))
  where
    absent : (b : Bool) → (b ≡ true → ⊥) → b ≡ false
    absent true h = absurd (h refl)
    absent false h = refl

-- so a search finds it
pub first_unset-least : (C : PairColouring) → IsColouring C → (used flags : List Bool) (r : Option ℕ) → length used ≡ C.size * C.size + 1
    → ((number : ℕ) → number < length used → get_or used number false ≡ has_colour C number) → flags ≡ used → r ≡ position not flags → r ≡ Some (least_unused C)
first_unset-least C h used flags r len is same e =
    let at : position_or_len not used ≡ least_unused C = least_unused-flag C h used len is in
    e ∙ ap (position not) same ∙ (λ i. cond (ltb (at i) (length used)) (Some (at i)) None)
    ∙ ap (λ b. cond b (Some (least_unused C)) None) (lt-ltb (least_unused C) (length used) (omega (arith, len, least_unused-le C h)))
