-- What holds of every form that judges a claim.
use Rattle.std.proofs.Common.{◌≡◌, ℕ, List, refl, sym, subst, inl, inr, ⊎_elim}
use Rattle.std.specs.Prelude.{◌⊎◌}
use Rattle.cohere_core.specs.declared.status.Status.TheVariants.{Done, CheckedNo}
use Rattle.cohere_core.specs.CheckForm.{IsJudgedBy, JudgesClaim}

-- the status of a claim that is accepted, and of one that is not, where a file holds one claim
pub accepted_is_done : (Claim : Type 0) (IsFile IsAccepted : Claim → Type 0) (claim : Claim) → ((other : Claim) → IsFile other → claim ≡ other) → IsAccepted claim
    → IsJudgedBy Claim IsFile IsAccepted Done
accepted_is_done Claim IsFile IsAccepted claim one accepts =
    record { accepted = λ other file accepted. refl; refused = λ other file refuses. absurd (refuses (subst IsAccepted (one other file) accepts)) }

pub refused_is_no : (Claim : Type 0) (IsFile IsAccepted : Claim → Type 0) (claim : Claim) → ((other : Claim) → IsFile other → claim ≡ other) → (IsAccepted claim → ⊥)
    → IsJudgedBy Claim IsFile IsAccepted CheckedNo
refused_is_no Claim IsFile IsAccepted claim one refuses =
    record { accepted = λ other file accepts. absurd (refuses (subst IsAccepted (sym (one other file)) accepts)); refused = λ other file refused. refl }

-- the line of a claim is an output
pub line_is_output : (Claim : Type 0) (IsFile IsAccepted : Claim → Type 0) (Tells : Claim → List ℕ → Type 0) (claim : Claim) (t : List ℕ) → IsFile claim
    → IsAccepted claim ⊎ (IsAccepted claim → ⊥) → Tells claim t → JudgesClaim Claim IsFile IsAccepted Tells Done t ⊎ JudgesClaim Claim IsFile IsAccepted Tells CheckedNo t
line_is_output Claim IsFile IsAccepted Tells claim t file either tells = ⊎_elim (λ accepts. inl (claim, file, accepts, tells)) (λ refuses. inr (claim, file, refuses, tells)) either
