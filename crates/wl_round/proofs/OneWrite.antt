-- An entry of a list after a write.
use Rattle.std.proofs.Common.{◌≡◌, ◌≢◌, ℕ, ◌<◌, ◌++◌, List, length, get_or, set, take, drop, ⊎_elim, sym, ap, subst, ◌∙◌}
use Rattle.std.proofs.Math.Seq.{take-append_seam}
use Rattle.std.proofs.lemmas.Bool.{cases_eq}
use Rattle.std.proofs.lemmas.List.{get_or-set_same, get_or-set_other}

-- what holds of an entry after a write
pub one_write : (P : ℕ → Type 0) (xs : List ℕ) (i a k : ℕ) → i < length xs → (k ≡ i → P a) → (k ≢ i → P (get_or xs k 0)) → P (get_or (set xs i a) k 0)
one_write P xs i a k l same other =
    ⊎_elim
    (λ e. subst (λ z. P (get_or (set xs i a) z 0)) (sym e) (subst P (sym (get_or-set_same xs i a 0 l)) (same e)))
    (λ ne. subst P (sym (get_or-set_other xs i k a 0 ne)) (other ne))
    (cases_eq k i)

-- a list that was lent whole and is given back
pub written_back : (k : ℕ) (new old : List ℕ) → k ≡ length new → take k (new ++ drop (length new) old) ≡ new
written_back k new old e = ap (λ m. take m (new ++ drop (length new) old)) e ∙ take-append_seam new (drop (length new) old)
