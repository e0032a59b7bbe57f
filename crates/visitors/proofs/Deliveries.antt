-- A list that is delivered entry by entry.
use Rattle.std.proofs.Common.{◌≡◌, ℕ, zero, suc, ◌+◌, ◌<◌, ◌≤◌, List, [], ◌∷◌, ◌++◌, length, take, map, get_or, ⊎_elim, refl, sym, ap, ◌∙◌, arith}
use Rattle.std.proofs.lemmas.Bool.{cases_eq, cases_lt}
use Rattle.std.proofs.lemmas.List.{take-map, map_more, length_push}

-- one entry more
pub met_more : (f : ℕ → List ℕ) (masks : List ℕ) (k : ℕ) (old new : List (List ℕ)) (entry : List ℕ) → k < length masks
    → old ≡ take k (map f masks) → entry ≡ f (get_or masks k 0) → new ≡ old ++ entry ∷ [] → new ≡ take (k + 1) (map f masks)
met_more f masks k old new entry l o e n =
    n
    ∙ (λ i. o i ++ e i ∷ [])
    ∙ ap (λ all. all ++ f (get_or masks k 0) ∷ []) (take-map f k masks)
    ∙ sym (map_more f masks k 0 l)
    ∙ sym (take-map f (k + 1) masks)

front_of : {X : Type 0} (all : List X) (n : ℕ) → take n all ≡ take (length (take n all)) all
front_of all zero = refl
front_of [] (suc n) = refl
front_of (x ∷ all) (suc n) = ap (λ xs. x ∷ xs) (front_of all n)

-- so many first entries are a front of the list
pub met_front : (all met : List (List ℕ)) (n : ℕ) → met ≡ take n all → met ≡ take (length met) all
met_front all met n e = e ∙ front_of all n ∙ ap (λ xs. take (length xs) all) (sym e)

-- where they fill the room, they are the list cut
pub met_full : (all met : List (List ℕ)) (n room was : ℕ) → met ≡ take n all → length met ≡ room → room ≡ was → met ≡ take was all
met_full all met n room was e l same = met_front all met n e ∙ ap (λ k. take k all) (l ∙ same)

-- where they do not, there is room for one more
pub met_space : (old new : List (List ℕ)) (entry : List ℕ) (was room : ℕ) → length old < was → new ≡ old ++ entry ∷ [] → room ≡ was → (length new ≡ room → ⊥) → length new < room
met_space old new entry was room l n same not_full = ⊎_elim
    (λ (e : length new ≡ room). absurd (not_full e))
    (λ (ne : length new ≡ room → ⊥). let one : length new ≡ length old + 1 = ap length n ∙ length_push old entry in let m : length new ≤ room = omega (arith, one, l, same) in lt_from_ne m ne)
    (cases_eq (length new) room)
  where
    lt_from_ne : {a b : ℕ} → a ≤ b → (a ≡ b → ⊥) → a < b
    lt_from_ne {a} {b} m ne = ⊎_elim (λ (k : a < b). k) (λ (k : b ≤ a). let e : a ≡ b = omega (arith, m, k) in absurd (ne e)) (cases_lt a b)
