-- Words that pass a test one by one.
use Rattle.std.proofs.Common.{◌≡◌, ◌+◌, ◌<◌, ◌≤◌, ◌⊎◌, ◌&&◌, ℕ, Bool, true, false, List, length, take, get_or, inl, inr, refl, sym, ap, ◌∙◌}
use Rattle.std.specs.Prelude.{nat_le, String, string_bytes}
use Rattle.std.specs.List.{list_all}
use Rattle.std.specs.declared.alloc.Global.{Global}
use Rattle.std.proofs.lemmas.Bool.{le-leb, lt-leb}
use Rattle.std.proofs.lemmas.List.Folds.{list_all-map, list_all_at, list_all_more}
use Rattle.cohere_inputs.specs.Words.{texts}

-- a word that fails the test is one of the words
pub one_fails : (p : List ℕ → Bool) (words : List (String Global)) (i : ℕ) (word : String Global) → i < length words → word ≡ get_or words i word → p (string_bytes word) ≡ false
    → false ≡ list_all p (texts words)
one_fails p words i word lt is fails =
    sym (list_all-map p string_bytes words ∙ list_all_at (λ w. p (string_bytes w)) words i word lt (ap (λ w. p (string_bytes w)) (sym is) ∙ fails))

-- the words so far pass it, and one more does
pub one_more_passes : (p : List ℕ → Bool) (words : List (String Global)) (i : ℕ) (word : String Global) → i < length words → word ≡ get_or words i word → p (string_bytes word) ≡ true
    → list_all p (texts (take i words)) ≡ true → list_all p (texts (take (i + 1) words)) ≡ true
one_more_passes p words i word lt is passes so_far =
    list_all-map p string_bytes (take (i + 1) words) ∙ list_all_more (λ w. p (string_bytes w)) words i word lt
    ∙ ap (λ b. b && p (string_bytes (get_or words i word))) (sym (list_all-map p string_bytes (take i words)) ∙ so_far) ∙ ap (λ w. p (string_bytes w)) (sym is) ∙ passes

-- a number that is too small or too great is not within
pub not_within : (n limit : ℕ) → (n < 1) ⊎ ((1 ≤ n) × (limit < n)) → (nat_le 1 n && nat_le n limit) ≡ false
not_within n limit (inl small) = ap (λ b. b && nat_le n limit) (lt-leb 1 n small)
not_within n limit (inr great) = elim (nat_le 1 n) as (λ b. (b && nat_le n limit) ≡ false) [ true ↦ lt-leb n limit great.1 | false ↦ refl ]

pub is_within : (n limit : ℕ) → 1 ≤ n → n ≤ limit → (nat_le 1 n && nat_le n limit) ≡ true
is_within n limit some few = ap (λ b. b && nat_le n limit) (le-leb 1 n some) ∙ le-leb n limit few
