-- The growth string of the blocks of a function.
use Rattle.std.proofs.Common.{◌≡◌, ◌==◌, ℕ, zero, suc, ◌<◌, ◌≤◌, Bool, List, [], ◌∷◌, ◌++◌, length, get_or, slice_index, ⊎_elim, sym, ap, ◌∙◌, arith}
use Rattle.std.specs.List.{position_or_len}
use Rattle.std.proofs.lemmas.Bool.{cases_lt, eqb-true, eqb-false}
use Rattle.std.proofs.lemmas.List.{get_or_push, get_or_append_left}
use Rattle.std.proofs.lemmas.List.FromFn.{get_or-range_with_len, length-range_with_len}
use Rattle.std.proofs.lemmas.List.Sums.{passes_at_first, fails_before_first}
use Rattle.pair_colours.specs.Colouring.{points}
use Rattle.colour_wl.specs.GrowthStrings.{next_number, IsGrowth}
use Rattle.colour_wl.proofs.Growth.{next_above, IsGrowth-nil, IsGrowth-push}

-- a string with one number at two places exactly where f has one there
pub record IsStringOf {X : Type 0} (f : ℕ → X) (n : ℕ) (a : List ℕ) : Type 0 where
  pub growth : IsGrowth n a
  pub together : (i j : ℕ) → i < n → j < n → f i ≡ f j → slice_index a i ≡ slice_index a j
  pub apart : (i j : ℕ) → i < n → j < n → slice_index a i ≡ slice_index a j → f i ≡ f j

pub string_of_none : {X : Type 0} (f : ℕ → X) → IsStringOf f 0 []
string_of_none f = record { growth = IsGrowth-nil; together = λ i j li lj e. absurd (omega (arith, li)); apart = λ i j li lj e. absurd (omega (arith, li)) }

string_more : {X : Type 0} (f : ℕ → X) (n : ℕ) (a : List ℕ) (v : ℕ) → IsStringOf f n a → v ≤ next_number a
    → ((i : ℕ) → i < n → (f i ≡ f n → slice_index a i ≡ v) × (slice_index a i ≡ v → f i ≡ f n)) → IsStringOf f (suc n) (a ++ v ∷ [])
string_more f n a v s l h = record {
  growth = IsGrowth-push n a v s.growth l;
  together = λ i j li lj e. ⊎_elim
      (λ (mi : i < n). ⊎_elim
      (λ (mj : j < n). low i mi ∙ s.together i j mi mj e ∙ sym (low j mj))
      (λ (mj : n ≤ j). let q : j ≡ n = omega (arith, lj, mj) in low i mi ∙ (h i mi).0 (e ∙ ap f q) ∙ sym (high j q))
      (cases_lt j n))
      (λ (mi : n ≤ i). let p : i ≡ n = omega (arith, li, mi) in ⊎_elim
      (λ (mj : j < n). high i p ∙ sym ((h j mj).0 (sym e ∙ ap f p)) ∙ sym (low j mj))
      (λ (mj : n ≤ j). let q : j ≡ n = omega (arith, lj, mj) in high i p ∙ sym (high j q))
      (cases_lt j n))
      (cases_lt i n);
  apart = λ i j li lj e. ⊎_elim
      (λ (mi : i < n). ⊎_elim
      (λ (mj : j < n). s.apart i j mi mj (sym (low i mi) ∙ e ∙ low j mj))
      (λ (mj : n ≤ j). let q : j ≡ n = omega (arith, lj, mj) in (h i mi).1 (sym (low i mi) ∙ e ∙ high j q) ∙ ap f (sym q))
      (cases_lt j n))
      (λ (mi : n ≤ i). let p : i ≡ n = omega (arith, li, mi) in ⊎_elim
      (λ (mj : j < n). ap f p ∙ sym ((h j mj).1 (sym (low j mj) ∙ sym e ∙ high i p)))
      (λ (mj : n ≤ j). let q : j ≡ n = omega (arith, lj, mj) in ap f p ∙ ap f (sym q))
      (cases_lt j n))
      (cases_lt i n);
}
  where
    low : (i : ℕ) → i < n → slice_index (a ++ v ∷ []) i ≡ slice_index a i
    low i m = get_or_append_left a (v ∷ []) 0 i (omega (arith, m, s.growth.len))

    high : (i : ℕ) → i ≡ n → slice_index (a ++ v ∷ []) i ≡ v
    high i e = get_or_push a v 0 i (omega (arith, e, s.growth.len))

-- one place more, at which f has what it has at an earlier one
pub string_of_shared : {X : Type 0} (f : ℕ → X) (n : ℕ) (a : List ℕ) (p : ℕ) → IsStringOf f n a → p < n → f p ≡ f n → IsStringOf f (suc n) (a ++ slice_index a p ∷ [])
string_of_shared f n a p s m same =
    string_more f n a (slice_index a p) s (omega (arith, next_above a p (omega (arith, m, s.growth.len))))
    (λ i l. (λ e. s.together i p l m (e ∙ sym same), λ e. s.apart i p l m e ∙ same))

-- or what it has at none
pub string_of_fresh : {X : Type 0} (f : ℕ → X) (n : ℕ) (a : List ℕ) → IsStringOf f n a → ((i : ℕ) → i < n → f i ≡ f n → ⊥) → IsStringOf f (suc n) (a ++ next_number a ∷ [])
string_of_fresh f n a s none =
    string_more f n a (next_number a) s (omega arith)
    (λ i l. (λ e. absurd (none i l e), λ e. absurd (omega (arith, e, next_above a i (omega (arith, l, s.growth.len))))))

-- each function on the numbers below n has such a string
pub string_of : (f : ℕ → ℕ) (n : ℕ) → (a : List ℕ) × IsStringOf f n a
string_of f zero = ([], string_of_none f)
string_of f (suc n) =
    let again = string_of f n in
    let a : List ℕ = again.0 in
    let s : IsStringOf f n a = again.1 in
    let test : ℕ → Bool = λ k. f n == f k in
    let p : ℕ = position_or_len test (points n) in
    let len : length (points n) ≡ n = length-range_with_len 0 n in
    let at : (k : ℕ) → k < n → get_or (points n) k 0 ≡ k = λ k l. omega (arith, get_or-range_with_len 0 n k 0 l) in
    ⊎_elim
    (λ (m : p < n).
    let same : f n ≡ f p = eqb-true (f n) (f p) (sym (ap test (at p m)) ∙ passes_at_first test (points n) 0 (omega (arith, m, len))) in
    (a ++ slice_index a p ∷ [], string_of_shared f n a p s m (sym same)))
    (λ (m : n ≤ p). (
      a ++ next_number a ∷ [],
      string_of_fresh f n a s (λ i l e. eqb-false (f n) (f i) (sym (ap test (at i l)) ∙ fails_before_first test (points n) i 0 (omega (arith, l, m))) (sym e)),
    ))
    (cases_lt p n)
