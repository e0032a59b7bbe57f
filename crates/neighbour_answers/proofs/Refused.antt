-- A question that may be refused has exactly one answer, where its condition is decided and only one text answers.
use Rattle.std.proofs.Common.{◌≡◌, ◌⊎◌, ℕ, ◌<◌, ◌≤◌, List, inl, inr, ⊎_elim, refl, sym, ◌∙◌, arith}
use Rattle.std.proofs.lemmas.Bool.{cases_lt}
use Rattle.report_text.specs.EditLines.{refused_text_of}
use Rattle.report_text.specs.Refusals.{RefusedUnless}

-- where the condition is decided, there is an answer or a refusal
pub some_answer : (P : Type 0) (word : List ℕ) (A : List ℕ → Type 0) → P ⊎ (P → ⊥) → (P → (t : List ℕ) × A t) → (t : List ℕ) × RefusedUnless P word t (A t)
some_answer P word A d make = ⊎_elim (λ p. let m = make p in (m.0, inr (p, m.1))) (λ n. (refused_text_of word, inl (n, refl))) d

-- and only one, where only one text answers
pub one_answer : (P : Type 0) (word t u : List ℕ) (A B : Type 0) → (P → A → B → t ≡ u) → RefusedUnless P word t A → RefusedUnless P word u B → t ≡ u
one_answer P word t u A B same a b = ⊎_elim
    (λ r. ⊎_elim (λ s. r.1 ∙ sym s.1) (λ s. absurd (r.0 s.0)) b)
    (λ r. ⊎_elim (λ s. absurd (s.0 r.0)) (λ s. same r.0 r.1 s.1) b)
    a

-- what can be decided
pub few_or_not : (m n : ℕ) → (m ≤ n) ⊎ (m ≤ n → ⊥)
few_or_not m n = ⊎_elim (λ (l : n < m). inr (λ h. omega (arith, h, l))) (λ l. inl l) (cases_lt n m)

pub both_or_not : (i j n : ℕ) → ((i < n) × (j < n)) ⊎ ((i < n) × (j < n) → ⊥)
both_or_not i j n =
    ⊎_elim
    (λ (li : i < n). ⊎_elim (λ lj. inl (li, lj)) (λ (h : n ≤ j). inr (λ b. omega (arith, h, b.1))) (cases_lt j n))
    (λ (h : n ≤ i). inr (λ b. omega (arith, h, b.0)))
    (cases_lt i n)
