-- The first place at which a test passes, or the length, and the first part that `slice_split` gives.
use Rattle.std.proofs.Common.{◌≡◌, ℕ, ◌+◌, ◌≤◌, Bool, true, false, cond, ltb, List, [], ◌∷◌, length, Option, Some, None, refl, ap, ◌∙◌, arith}
use Rattle.std.specs.Prelude.{not}
use Rattle.std.specs.Option.{unwrap_or}
use Rattle.std.specs.List.{position_or_len, slice_split, onto_first}
use Rattle.std.proofs.lemmas.List.Sums.{prefix_len-le-length}
use Rattle.std.proofs.lemmas.Bool.Decides.{nat_tests}

pub position_or_len-le-length : {X : Type 0} (p : X → Bool) (xs : List X) → position_or_len p xs ≤ length xs
position_or_len-le-length p xs = prefix_len-le-length _ xs

cases : (i n : ℕ) → i ≤ n → unwrap_or (cond (ltb i n) (Some i) None) n ≡ i
cases i n h = elim (ltb i n) as (λ b. ltb i n ≡ b → unwrap_or (cond b (Some i) None) n ≡ i) [ true ↦ λ _. refl | false ↦ λ e. grind (arith, nat_tests) ] refl

-- what the first place found, or else the length, comes to
pub first_place : {X : Type 0} (p : X → Bool) (xs : List X) (r : ℕ) (o : Option ℕ)
    → r ≡ unwrap_or o (length xs) → o ≡ cond (ltb (position_or_len p xs) (length xs)) (Some (position_or_len p xs)) None → r ≡ position_or_len p xs
first_place p xs r o e f = e ∙ ap (λ w. unwrap_or w (length xs)) f ∙ cases (position_or_len p xs) (length xs) (prefix_len-le-length _ xs)

-- where no element passes, there is one part
pub slice_split_whole : {X : Type 0} (p : X → Bool) (xs : List X) → position_or_len p xs ≡ length xs → slice_split p xs ≡ xs ∷ []
slice_split_whole p [] h = refl
slice_split_whole {X} p (x ∷ xs) h = elim (p x) as (λ b. cond (not b) (1 + position_or_len p xs) 0 ≡ length (x ∷ xs) → cond b ([] ∷ slice_split p xs) (onto_first x (slice_split p xs)) ≡ (x ∷ xs) ∷ []) [
  | true ↦ λ e. absurd (omega arith)
  | false ↦ λ e. ap (onto_first x) (slice_split_whole p xs (omega arith))
] h
