-- Each claim is accepted, or has one first condition that does not hold.
use Rattle.std.proofs.Common.{◌≡◌, ℕ, ◌<◌, ◌≤◌, true, false, List, [], ◌∷◌, ◌++◌, length, ◌⊎◌, inl, inr, ⊎_elim, refl, sym, ap, subst, ◌∙◌, arith}
use Rattle.std.proofs.lemmas.Bool.{cases_lt, cases_Bool}
use Rattle.std.proofs.lemmas.List.{append_assoc}
use Rattle.std.proofs.lemmas.Slice.Eq.{bytes_eq-Decides}
use Rattle.std.specs.Str.{bytes_eq}
use Rattle.pair_colours.proofs.ListLemmas.{Each-append, Each-parts}
use Rattle.equitable.specs.declared.check_words.CellCheck.{CellCheck}
use Rattle.equitable.specs.declared.cell_steps.CellStep.{CellStep}
use Rattle.equitable.specs.Equitable.{cell_count, numbered}
use Rattle.equitable.specs.CellSplit.{NamesCells, keys_in, key_of}
use Rattle.equitable.specs.BadLines.{Condition, names_cells, has_parts, ends_equitable, names_end, Holds, word_of, conditions, AllHold, IsFirstFailing}
use Rattle.equitable.specs.Law.{VerdictExists, AcceptedHasNone, FirstBadLineIsUnique}
use Rattle.equitable.proofs.Conditions.{accepts_from_hold, hold_from_accepts}
use Rattle.equitable.proofs.Existing.{equitable_or_not}

lt_or_not : (m n : ℕ) → (m < n) ⊎ ¬ (m < n)
lt_or_not m n = ⊎_elim (λ (l : m < n). inl l) (λ (l : n ≤ m). inr (λ h. omega (arith, l, h))) (cases_lt m n)

names_or_not : (W : List ℕ) (s : CellStep) → NamesCells W s ⊎ ¬ NamesCells W s
names_or_not W s = ⊎_elim
    (λ c. ⊎_elim
    (λ i. inl (record { cell = c; into = i }))
    (λ none. inr (λ h. none h.into))
    (lt_or_not s.into (cell_count W)))
    (λ none. inr (λ h. none h.cell))
    (lt_or_not s.cell (cell_count W))

same_or_not : (xs ys : List ℕ) → (xs ≡ ys) ⊎ ¬ (xs ≡ ys)
same_or_not xs ys =
    let d = bytes_eq-Decides xs ys in
    ⊎_elim (λ t. inl (d.0 t)) (λ f. inr (λ p. let z : true ≡ false = sym (d.1 p) ∙ f in cc)) (cases_Bool (bytes_eq xs ys))

-- each condition holds or not
pub holds_or_not : (c : Condition) → Holds c ⊎ ¬ Holds c
holds_or_not (names_cells W s) = names_or_not W s
holds_or_not (has_parts G W s) = ⊎_elim (λ l. inr (λ h. omega (arith, l, h))) (λ l. inl l) (cases_lt (length (keys_in W s.cell (key_of G W s))) 2)
holds_or_not (ends_equitable G W) = equitable_or_not G W
holds_or_not (names_end cells W) = same_or_not cells (numbered W)

-- a failing condition, after others that hold
pub failing_after : (done cs : List (ℕ × Condition)) (line : ℕ) (word : CellCheck) → AllHold done → IsFirstFailing cs line word
    → IsFirstFailing (done ++ cs) line word
failing_after done cs line word h f = record {
  before = done ++ f.before;
  condition = f.condition;
  rest = f.rest;
  parts = ap (λ l. done ++ l) f.parts ∙ sym (append_assoc done f.before ((line, f.condition) ∷ f.rest));
  hold = Each-append (λ at. Holds at.1) done f.before h f.hold;
  fails = f.fails;
  says = f.says;
}

-- and before any others
pub failing_before : (cs more : List (ℕ × Condition)) (line : ℕ) (word : CellCheck) → IsFirstFailing cs line word → IsFirstFailing (cs ++ more) line word
failing_before cs more line word f = record {
  before = f.before;
  condition = f.condition;
  rest = f.rest ++ more;
  parts = ap (λ l. l ++ more) f.parts ∙ append_assoc f.before ((line, f.condition) ∷ f.rest) more;
  hold = f.hold;
  fails = f.fails;
  says = f.says;
}

-- all of a list of conditions hold, or a first one does not
pub first_failing : (cs : List (ℕ × Condition)) → AllHold cs ⊎ ((line : ℕ) × (word : CellCheck) × IsFirstFailing cs line word)
first_failing [] = inl tt
first_failing (c ∷ cs) =
    let again = first_failing cs in
    ⊎_elim
    (λ h. ⊎_elim
    (λ all. inl (h, all))
    (λ f. inr (f.0, f.1, failing_after (c ∷ []) cs f.0 f.1 (h, tt) f.2))
    again)
    (λ n. inr (c.0, word_of c.1, record { before = []; condition = c.1; rest = cs; parts = refl; hold = tt; fails = n; says = refl }))
    (holds_or_not c.1)

-- there is one such cut
one_failing : (xs ys us vs : List (ℕ × Condition)) (c d : ℕ × Condition) → xs ++ c ∷ us ≡ ys ++ d ∷ vs → AllHold xs → AllHold ys → ¬ Holds c.1
    → ¬ Holds d.1 → c ≡ d
one_failing [] [] us vs c d e a b f g = cc
one_failing [] (y ∷ ys) us vs c d e a b f g =
    let s : c ≡ y = cc in absurd (f (subst (λ z. Holds z.1) (sym s) b.0))
one_failing (x ∷ xs) [] us vs c d e a b f g =
    let s : x ≡ d = cc in absurd (g (subst (λ z. Holds z.1) s a.0))
one_failing (x ∷ xs) (y ∷ ys) us vs c d e a b f g =
    let s : xs ++ c ∷ us ≡ ys ++ d ∷ vs = cc in one_failing xs ys us vs c d s a.1 b.1 f g

pub verdict_exists : VerdictExists
verdict_exists claim = ⊎_elim
    (λ all. inl (accepts_from_hold claim all))
    (λ f. inr f)
    (first_failing (conditions claim))

pub accepted_has_none : AcceptedHasNone
accepted_has_none claim line word a f =
    let hold = subst AllHold f.parts (hold_from_accepts claim a) in
    f.fails (Each-parts (λ at. Holds at.1) f.before ((line, f.condition) ∷ f.rest) hold).1.0

pub first_bad_line_is_unique : FirstBadLineIsUnique
first_bad_line_is_unique claim line line2 word word2 f g =
    let same : (line, f.condition) ≡ (line2, g.condition) =
    one_failing f.before g.before f.rest g.rest (line, f.condition) (line2, g.condition) (sym f.parts ∙ g.parts) f.hold g.hold f.fails g.fails in
    (ap (λ (at : ℕ × Condition). at.0) same, sym f.says ∙ ap (λ (at : ℕ × Condition). word_of at.1) same ∙ g.says)
