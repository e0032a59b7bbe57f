-- How a sorted list of codes is counted run by run.
use Rattle.std.proofs.Common.{◌≡◌, ◌==◌, ℕ, suc, zero, ◌+◌, ◌-◌, ◌^◌, ◌<◌, ◌≤◌, Bool, true, false, List, [], ◌∷◌, ◌++◌, length, get_or, take, count_by, Any, ⊎_elim, refl, sym, ap, ◌∙◌, arith}
use Rattle.std.specs.List.Sorted.{IsNonDecreasing}
use Rattle.std.proofs.lemmas.Bool.{cases_lt, cases_order, eqb-true, eq-eqb, ne_eqb}
use Rattle.std.proofs.lemmas.List.{length-take-le, length_push, get_or-take, get_or_default, get_or_append_left}
use Rattle.std.proofs.lemmas.List.Sums.{count_by_more_yes, count_by_more_no}
use Rattle.std.proofs.lemmas.List.Elements.{All-push}
use Rattle.std.proofs.lemmas.List.Quantifiers.{all_pairs_push, Any-push}
use Rattle.pair_colours.proofs.Counts.{found}
use Rattle.triangle_count.specs.declared.rows.Entry.{Entry}
use Rattle.triangle_count.specs.Runs.{code_of, IsTally}

-- how often a test passes on a stretch where it always does, or never does
run_count : (p : ℕ → Bool) (codes : List ℕ) (start m : ℕ) → start + m ≤ length codes → ((k : ℕ) → start ≤ k → k < start + m → p (get_or codes k 0) ≡ true)
    → count_by p (take (start + m) codes) ≡ count_by p (take start codes) + m
run_count p codes start zero l h = let e : start + 0 ≡ start = omega arith in ap (λ n. count_by p (take n codes)) e ∙ omega arith
run_count p codes start (suc m) l h =
    let again = run_count p codes start m (omega arith) (λ k a b. h k a (omega arith)) in
    let e : start + suc m ≡ start + m + 1 = omega arith in
    ap (λ n. count_by p (take n codes)) e
    ∙ count_by_more_yes p codes (start + m) 0 (omega arith) (h (start + m) (omega arith) (omega arith))
    ∙ omega (arith, again)

run_none : (p : ℕ → Bool) (codes : List ℕ) (start m : ℕ) → start + m ≤ length codes → ((k : ℕ) → start ≤ k → k < start + m → p (get_or codes k 0) ≡ false)
    → count_by p (take (start + m) codes) ≡ count_by p (take start codes)
run_none p codes start zero l h = let e : start + 0 ≡ start = omega arith in ap (λ n. count_by p (take n codes)) e
run_none p codes start (suc m) l h =
    let again = run_none p codes start m (omega arith) (λ k a b. h k a (omega arith)) in
    let e : start + suc m ≡ start + m + 1 = omega arith in
    ap (λ n. count_by p (take n codes)) e
    ∙ count_by_more_no p codes (start + m) 0 (omega arith) (h (start + m) (omega arith) (omega arith))
    ∙ again

-- the loop stands at place i, inside the run that begins at start
pub record IsRun (codes : List ℕ) (start i : ℕ) (entries : List Entry) : Type 0 where
  pub low : start ≤ i
  pub tally : IsTally (take start codes) entries
  pub same : i < length codes → (k : ℕ) → start ≤ k → k ≤ i → get_or codes k 0 ≡ get_or codes i 0
  pub fresh : i < length codes → (k : ℕ) → k < start → get_or codes k 0 < get_or codes i 0
  pub ended : i ≡ length codes → start ≡ i

-- within a run
pub IsRun-within : (codes : List ℕ) (start i : ℕ) (entries : List Entry) → i + 1 < length codes → get_or codes (i + 1) 0 ≡ get_or codes i 0
    → IsRun codes start i entries → IsRun codes start (i + 1) entries
IsRun-within codes start i entries l e r = record {
  low = omega (arith, r.low);
  tally = r.tally;
  same = λ _ k a b. ⊎_elim
      (λ (m : k < i + 1). r.same (omega arith) k a (omega arith) ∙ sym e)
      (λ (m : i + 1 ≤ k). let q : k ≡ i + 1 = omega arith in ap (λ n. get_or codes n 0) q)
      (cases_lt k (i + 1));
  fresh = λ _ k a. let f = r.fresh (omega arith) k a in omega (arith, f, e);
  ended = λ q. absurd (omega arith);
}

-- at its end, its entry is made
IsTally-more : (codes : List ℕ) (start i : ℕ) (entries : List Entry) (e : Entry) → i < length codes → IsRun codes start i entries
    → code_of e ≡ get_or codes i 0 → e.right < 2 ^ 32 → e.count ≡ i + 1 - start → IsTally (take (i + 1) codes) (entries ++ e ∷ [])
IsTally-more codes start i entries e l r c small n = record {
  rises = all_pairs_push (λ a b. code_of a < code_of b) entries e r.tally.rises (λ k d m. older k d m);
  small = All-push (λ a. a.right < 2 ^ 32) entries e r.tally.small small;
  nonzero = All-push (λ a. 0 < a.count) entries e r.tally.nonzero (omega (arith, n, r.low));
  counts = All-push (λ a. a.count ≡ count_by (λ code. code == code_of a) (take (i + 1) codes)) entries e (λ k d m. r.tally.counts k d m ∙ sym (unchanged k d m)) own;
  complete = λ k d m. at k d (omega (arith, m, length-take-le (i + 1) codes (omega arith)));
  short = omega (arith, r.tally.short, r.low, length_push entries e, length-take-le start codes (omega (arith, r.low)), length-take-le (i + 1) codes (omega arith));
}
  where
    m' : start + (i + 1 - start) ≡ i + 1
    m' = omega (arith, r.low)

    front : length (take start codes) ≡ start
    front = length-take-le start codes (omega (arith, r.low))

    -- the code of an older entry stands before the run, since it is counted there
    older : (k : ℕ) (d : Entry) → k < length entries → code_of (get_or entries k d) < code_of e
    older k d m =
        let a = get_or entries k d in
        let there : 0 < count_by (λ code. code == code_of a) (take start codes) = omega (arith, r.tally.nonzero k d m, r.tally.counts k d m) in
        let f = found (λ code. code == code_of a) (take start codes) there in
        let low : f.0 < start = omega (arith, f.1, front) in
        let is : get_or codes f.0 0 ≡ code_of a = sym (get_or-take start codes f.0 0 low) ∙ eqb-true _ _ (f.2 0) in
        omega (arith, r.fresh l f.0 low, is, c)

    unchanged : (k : ℕ) (d : Entry) → k < length entries
        → count_by (λ code. code == code_of (get_or entries k d)) (take (i + 1) codes) ≡ count_by (λ code. code == code_of (get_or entries k d)) (take start codes)
    unchanged k d m =
        let a = get_or entries k d in
        let past = run_none (λ code. code == code_of a) codes start (i + 1 - start) (omega (arith, m'))
        (λ j p q. ne_eqb (get_or codes j 0) (code_of a) (λ h. let o = older k d m in let s = r.same l j p (omega (arith, q, m')) in omega (arith, o, s, c, h))) in
        ap (λ n. count_by (λ code. code == code_of a) (take n codes)) (sym m') ∙ past

    own : e.count ≡ count_by (λ code. code == code_of e) (take (i + 1) codes)
    own =
        let none = run_none (λ code. code == code_of e) codes 0 start (omega (arith, r.low))
        (λ j p q. ne_eqb (get_or codes j 0) (code_of e) (λ h. let f = r.fresh l j (omega (arith, q)) in omega (arith, f, c, h))) in
        let from : 0 + start ≡ start = omega arith in
        let zero : count_by (λ code. code == code_of e) (take start codes) ≡ 0 = ap (λ n. count_by (λ code. code == code_of e) (take n codes)) (sym from) ∙ none in
        let all = run_count (λ code. code == code_of e) codes start (i + 1 - start) (omega (arith, m'))
        (λ j p q. eq-eqb (get_or codes j 0) (code_of e) (r.same l j p (omega (arith, q, m')) ∙ sym c)) in
        let end = ap (λ n. count_by (λ code. code == code_of e) (take n codes)) m' in
        omega (arith, n, zero, all, end)

    at : (k : ℕ) (d : ℕ) → k < i + 1 → Any (λ a. code_of a ≡ get_or (take (i + 1) codes) k d) (entries ++ e ∷ [])
    at k d m = ⊎_elim before within (cases_lt k start)
      where
        here : get_or (take (i + 1) codes) k d ≡ get_or codes k 0
        here = get_or-take (i + 1) codes k d m ∙ get_or_default codes k d 0 (omega arith)

        before : k < start → Any (λ a. code_of a ≡ get_or (take (i + 1) codes) k d) (entries ++ e ∷ [])
        before q =
            let o = r.tally.complete k d (omega (arith, q, front)) in
            let is : get_or (take start codes) k d ≡ get_or codes k 0 = get_or-take start codes k d q ∙ get_or_default codes k d 0 (omega arith) in
            (o.0, o.1, omega (arith, o.2, length_push entries e), get_or_append_left entries (e ∷ []) o.1 o.0 o.2 ∙ o.3, o.4 ∙ is ∙ sym here)

        within : start ≤ k → Any (λ a. code_of a ≡ get_or (take (i + 1) codes) k d) (entries ++ e ∷ [])
        within q = Any-push (λ a. code_of a ≡ get_or (take (i + 1) codes) k d) entries e (c ∙ sym (r.same l k q (omega arith)) ∙ sym here)

-- and the next run begins
pub IsRun-next : (codes : List ℕ) (start i : ℕ) (entries : List Entry) (e : Entry) → IsNonDecreasing codes → i < length codes → (i + 1 < length codes → get_or codes (i + 1) 0 ≡ get_or codes i 0 → ⊥)
    → IsRun codes start i entries → code_of e ≡ get_or codes i 0 → e.right < 2 ^ 32 → e.count ≡ i + 1 - start → IsRun codes (i + 1) (i + 1) (entries ++ e ∷ [])
IsRun-next codes start i entries e up l ne r c small n = record {
  low = omega arith;
  tally = IsTally-more codes start i entries e l r c small n;
  same = λ _ k a b. ap (λ q. get_or codes q 0) (omega arith);
  fresh = λ m k a. above m k a;
  ended = λ q. refl;
}
  where
    above : i + 1 < length codes → (k : ℕ) → k < i + 1 → get_or codes k 0 < get_or codes (i + 1) 0
    above m k a =
        let first = up k i 0 (omega arith) l in
        let next = up i (i + 1) 0 (omega arith) m in
        let apart : get_or codes (i + 1) 0 ≡ get_or codes i 0 → ⊥ = ne m in
        ⊎_elim (λ q. absurd (apart (sym q))) (λ o. ⊎_elim (λ q. omega (arith, first, q)) (λ q. absurd (omega (arith, next, q))) o) (cases_order (get_or codes i 0) (get_or codes (i + 1) 0))
