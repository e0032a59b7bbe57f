-- Whether some element of a list passes a test, and the first place of one that does.
use Rattle.std.proofs.Common.{◌≡◌, ℕ, suc, ◌+◌, ◌-◌, ◌<◌, ◌≤◌, Bool, true, false, cond, ltb, List, [], ◌∷◌, length, get_or, Option, Some, None, refl, sym, ap, ◌∙◌, arith, inl, inr}
use Rattle.std.specs.Prelude.{not, ◌||◌, IfNone, IfSome}
use Rattle.std.specs.List.{list_any, range_with_len, position_or_len}
use Rattle.std.proofs.lemmas.Bool.{both_ways, cases_lt, false_from_ne_true, lt-ltb, le-ltb}
use Rattle.std.proofs.lemmas.List.FromFn.{get_or-range_with_len, length-range_with_len}
use Rattle.std.proofs.lemmas.List.Folds.{list_any_at, list_any_none}
use Rattle.std.proofs.lemmas.List.Elements.{All-from_get_or}

-- no element passes
pub list_any-false : {X : Type 0} (p : X → Bool) (xs : List X) (k : ℕ) (d : X) → list_any p xs ≡ false → k < length xs → p (get_or xs k d) ≡ false
list_any-false p xs k d e h = false_from_ne_true (p (get_or xs k d)) (λ passes. both_ways (list_any p xs) e (list_any_at p xs k d h passes))

pub list_any_range-false : (p : ℕ → Bool) (a n k : ℕ) → list_any p (range_with_len a n) ≡ false → a ≤ k → k < a + n → p k ≡ false
list_any_range-false p a n k e low high =
    let i : ℕ = k - a in
    let there : a + i ≡ k = omega arith in
    let at : get_or (range_with_len a n) i 0 ≡ k = get_or-range_with_len a n i 0 (omega arith) ∙ there in
    sym (ap p at) ∙ list_any-false p (range_with_len a n) i 0 e (omega (arith, length-range_with_len a n))

pub list_any_range-none : (p : ℕ → Bool) (a n : ℕ) → ((k : ℕ) → a ≤ k → k < a + n → p k ≡ false) → list_any p (range_with_len a n) ≡ false
list_any_range-none p a n none = list_any_none p (range_with_len a n) (All-from_get_or (λ x. p x ≡ false) (range_with_len a n) 0 (λ i h.
    let inside : i < n = omega (arith, length-range_with_len a n) in
    ap p (get_or-range_with_len a n i 0 inside) ∙ none (a + i) (omega arith) (omega arith)))

ltb_both : (i n : ℕ) → ltb i n ≡ ltb (1 + i) (suc n)
ltb_both i n = elim (cases_lt i n) [
  | inl below ↦ lt-ltb i n below ∙ sym (lt-ltb (1 + i) (suc n) (omega arith))
  | inr past ↦ le-ltb i n past ∙ sym (le-ltb (1 + i) (suc n) (omega arith))
]

-- some element passes exactly where the first place that passes is within the list
pub list_any-position : {X : Type 0} (p : X → Bool) (xs : List X) → list_any p xs ≡ ltb (position_or_len p xs) (length xs)
list_any-position p [] = sym (le-ltb 0 0 (omega arith))
list_any-position p (x ∷ xs) = elim (p x) as (λ b. (b || list_any p xs) ≡ ltb (cond (not b) (1 + position_or_len p xs) 0) (length (x ∷ xs))) [
  | true ↦ sym (lt-ltb 0 (length (x ∷ xs)) (omega arith))
  | false ↦ list_any-position p xs ∙ ltb_both (position_or_len p xs) (length xs)
]

first_cases : {X : Type 0} (p : X → Bool) (xs : List X) (b : Bool) → list_any p xs ≡ b → (o : Option ℕ) → o ≡ cond b (Some (position_or_len p xs)) None
    → IfNone o (list_any p xs ≡ false) × IfSome o (λ place. place ≡ position_or_len p xs)
first_cases p xs true e o f = rw f (tt, refl)
first_cases p xs false e o f = rw f (e, tt)

-- what the first place that passes tells, where there is one
pub found_first : {X : Type 0} (p : X → Bool) (xs : List X) (o : Option ℕ) → o ≡ cond (ltb (position_or_len p xs) (length xs)) (Some (position_or_len p xs)) None
    → IfNone o (list_any p xs ≡ false) × IfSome o (λ place. place ≡ position_or_len p xs)
found_first p xs o e = first_cases p xs (list_any p xs) refl o (rw (list_any-position p xs) e)
