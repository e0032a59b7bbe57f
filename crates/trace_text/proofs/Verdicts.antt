-- Each claim is accepted, or has one first condition that does not hold.
use Rattle.std.proofs.Common.{◌≡◌, ℕ, ◌≤◌, List, [], ◌∷◌, ◌++◌, length, ◌⊎◌, inl, inr, ⊎_elim, refl, sym, ap, subst, ◌∙◌, arith}
use Rattle.std.proofs.lemmas.Bool.{cases_lt}
use Rattle.std.proofs.lemmas.List.{append_assoc}
use Rattle.pair_colours.specs.Naming.{rank_of, named_of}
use Rattle.pair_colours.proofs.ListLemmas.{Each-append, Each-parts}
use Rattle.trace_text.specs.declared.check_words.CheckWord.{CheckWord}
use Rattle.trace_text.specs.declared.stage_list.Claim.{Claim}
use Rattle.trace_text.specs.Split.{numbers_of, later_keys, key_of}
use Rattle.trace_text.specs.Acceptance.{Accepts}
use Rattle.trace_text.specs.BadLines.{Condition, refines_stage, names_classes, has_parts, ends_coherent, names_end, Holds, word_of, conditions, AllHold, IsFirstFailing, IsFirstBadLine}
use Rattle.trace_text.proofs.Conditions.{accepts_from_hold, hold_from_accepts}
use Rattle.trace_text.proofs.Decided.{refines_or_not, coherent_or_not, all_below_or_not, same_or_not}

-- each condition holds or not
pub holds_or_not : (c : Condition) → Holds c ⊎ ¬ Holds c
holds_or_not (refines_stage C before) = refines_or_not C before
holds_or_not (names_classes P s) = all_below_or_not (rank_of P) (numbers_of s)
holds_or_not (has_parts P s) = ⊎_elim (λ l. inr (λ h. omega (arith, l, h))) (λ l. inl l) (cases_lt (length (later_keys P (key_of P s))) 1)
holds_or_not (ends_coherent P) = coherent_or_not P
holds_or_not (names_end K P) = same_or_not K (named_of P)

-- a failing condition, after others that hold
pub failing_after : (done cs : List (ℕ × Condition)) (line : ℕ) (word : CheckWord) → AllHold done → IsFirstFailing cs line word → IsFirstFailing (done ++ cs) line word
failing_after done cs line word h f = record {
  before = done ++ f.before;
  condition = f.condition;
  rest = f.rest;
  parts = ap (λ l. done ++ l) f.parts ∙ sym (append_assoc done f.before ((line, f.condition) ∷ f.rest));
  hold = Each-append (λ at. Holds at.1) done f.before h f.hold;
  fails = f.fails;
  says = f.says;
}

-- and before any others
pub failing_before : (cs more : List (ℕ × Condition)) (line : ℕ) (word : CheckWord) → IsFirstFailing cs line word → IsFirstFailing (cs ++ more) line word
failing_before cs more line word f = record {
  before = f.before;
  condition = f.condition;
  rest = f.rest ++ more;
  parts = ap (λ l. l ++ more) f.parts ∙ append_assoc f.before ((line, f.condition) ∷ f.rest) more;
  hold = f.hold;
  fails = f.fails;
  says = f.says;
}

-- all of a list of conditions hold, or a first one does not
first_failing : (cs : List (ℕ × Condition)) → AllHold cs ⊎ ((line : ℕ) × (word : CheckWord) × IsFirstFailing cs line word)
first_failing [] = inl tt
first_failing (c ∷ cs) =
    let again = first_failing cs in
    ⊎_elim
    (λ h. ⊎_elim
    (λ all. inl (h, all))
    (λ f. inr (f.0, f.1, failing_after (c ∷ []) cs f.0 f.1 (h, tt) f.2))
    again)
    (λ n. inr (c.0, word_of c.1, record { before = []; condition = c.1; rest = cs; parts = refl; hold = tt; fails = n; says = refl }))
    (holds_or_not c.1)

-- there is one such cut
one_failing : (xs ys us vs : List (ℕ × Condition)) (c d : ℕ × Condition) → xs ++ c ∷ us ≡ ys ++ d ∷ vs → AllHold xs → AllHold ys → ¬ Holds c.1 → ¬ Holds d.1 → c ≡ d
one_failing [] [] us vs c d e a b f g = cc
one_failing [] (y ∷ ys) us vs c d e a b f g =
    let s : c ≡ y = cc in absurd (f (subst (λ z. Holds z.1) (sym s) b.0))
one_failing (x ∷ xs) [] us vs c d e a b f g =
    let s : x ≡ d = cc in absurd (g (subst (λ z. Holds z.1) s a.0))
one_failing (x ∷ xs) (y ∷ ys) us vs c d e a b f g =
    let s : xs ++ c ∷ us ≡ ys ++ d ∷ vs = cc in one_failing xs ys us vs c d s a.1 b.1 f g

pub verdict_exists : (claim : Claim) → 1 ≤ length claim.chain → Accepts claim ⊎ ((line : ℕ) × (word : CheckWord) × IsFirstBadLine claim line word)
verdict_exists claim some = ⊎_elim
    (λ all. inl (accepts_from_hold claim some all))
    (λ f. inr f)
    (first_failing (conditions claim))

pub accepted_has_none : (claim : Claim) (line : ℕ) (word : CheckWord) → Accepts claim → IsFirstBadLine claim line word → ⊥
accepted_has_none claim line word a f =
    let hold = subst AllHold f.parts (hold_from_accepts claim a) in
    f.fails (Each-parts (λ at. Holds at.1) f.before ((line, f.condition) ∷ f.rest) hold).1.0

pub first_bad_line_is_unique : (claim : Claim) (line line2 : ℕ) (word word2 : CheckWord)
    → IsFirstBadLine claim line word → IsFirstBadLine claim line2 word2 → (line ≡ line2) × (word ≡ word2)
first_bad_line_is_unique claim line line2 word word2 f g =
    let same : (line, f.condition) ≡ (line2, g.condition) =
    one_failing f.before g.before f.rest g.rest (line, f.condition) (line2, g.condition) (sym f.parts ∙ g.parts) f.hold g.hold f.fails g.fails in
    (ap (λ (at : ℕ × Condition). at.0) same, sym f.says ∙ ap (λ (at : ℕ × Condition). word_of at.1) same ∙ g.says)
