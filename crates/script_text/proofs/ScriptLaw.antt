-- Each text is one script or has a fault.
use Rattle.std.proofs.Common.{◌≡◌, ℕ, ◌+◌, ◌≤◌, Bool, true, false, List, [], ◌∷◌, ◌++◌, length, Option, Some, None, is_some, ◌⊎◌, inl, inr, refl, sym, ap, ◌∙◌, subst, ⊎_elim, arith, append_assoc, length-append}
use Rattle.std.specs.Prelude.{IsTrue, IsSome, count_by, option_map, slice_get}
use Rattle.std.specs.List.{AllZip, AllByRecursion, list_all, cons_option}
use Rattle.std.proofs.lemmas.Bool.{false≢true}
use Rattle.std.proofs.lemmas.List.{length_push, append-nil}
use Rattle.std.proofs.lemmas.Option.{none-some}
use Rattle.std.proofs.lemmas.List.Sums.{sum_by-append, sum_by-cons}
use Rattle.text_lines.specs.Lines.{lines_of}
use Rattle.text_lines.specs.Part.{Part}
use Rattle.pair_colours.specs.Tests.{first_that_holds}
use Rattle.script_text.specs.declared.acts.Act.{Act}
use Rattle.script_text.specs.declared.acts.Line.{Line}
use Rattle.script_text.specs.declared.limits.TheConstants.{MOST_PRODUCTS}
use Rattle.script_text.specs.declared.faults.ScriptWord.{ScriptWord}
use Rattle.script_text.specs.Answers.{IsRead, IsReadAt}
use Rattle.script_text.specs.LineFaults.{word_texts, asks, is_script_byte, is_product, word_tests, line_tests, faults_of}
use Rattle.script_text.specs.Script.{asking_lines, IsLine, AreScript, product_count, ScriptIsUnique, ScriptOrFault, ScriptHasNoFault, FaultHasNoScript}
use Rattle.script_text.proofs.KnownActs.{one_act}
use Rattle.script_text.proofs.LineLemmas.{IsPassed, act_passes, passing_act, passed, line_passes, read_product}
use Rattle.script_text.proofs.ScriptLines.{AreRead, weight, asking_from, asking_lines-append, asking_first, count_by-one, faults_from, faults_of-from, products_same, none_read, read_more, found, line_for}

line_same : (l m : Line) → l.number ≡ m.number → l.act ≡ m.act → l ≡ m
line_same l m e f =
    let by_number : ℕ → Line = λ n. record { number = n; act = l.act } in
    let by_act : Act → Line = λ a. record { number = m.number; act = a } in
    ap by_number e ∙ ap by_act f

one_script : (lines : List (ℕ × List (List ℕ))) (script other : List Line) → AllZip IsLine lines script → AllZip IsLine lines other → script ≡ other
one_script [] [] [] h g = refl
one_script [] [] (m ∷ other) h g = absurd g
one_script [] (l ∷ script) other h g = absurd h
one_script (line ∷ lines) [] other h g = absurd h
one_script (line ∷ lines) (l ∷ script) [] h g = absurd g
one_script (line ∷ lines) (l ∷ script) (m ∷ other) h g =
    ap (λ k. k ∷ script) (line_same l m (h.0.number ∙ sym g.0.number) (one_act line.1 l.act m.act h.0.act g.0.act))
    ∙ ap (λ ls. m ∷ ls) (one_script lines script other h.1 g.1)

pub script_is_unique : ScriptIsUnique
script_is_unique text script other h g = one_script (asking_lines (lines_of text)) script other h.lines.asked g.lines.asked

zip_at : (xs : List (ℕ × List (List ℕ))) (y : ℕ × List (List ℕ)) (ys : List (ℕ × List (List ℕ))) (zs : List Line) → AllZip IsLine (xs ++ y ∷ ys) zs → (z : Line) × IsLine y z
zip_at [] y ys [] h = absurd h
zip_at [] y ys (z ∷ zs) h = (z, h.0)
zip_at (x ∷ xs) y ys [] h = absurd h
zip_at (x ∷ xs) y ys (z ∷ zs) h = zip_at xs y ys zs h.1

allowed_at : (done : List Part) (line : Part) (rest : List Part) → AllByRecursion (λ (l : Part). IsTrue (list_all is_script_byte l.bytes)) (done ++ line ∷ rest)
    → list_all is_script_byte line.bytes ≡ true
allowed_at [] line rest h = h.0
allowed_at (d ∷ done) line rest h = allowed_at done line rest h.1

asked_at : (done : List Part) (line : Part) (rest : List Part) (script : List Line) → AreScript (done ++ line ∷ rest) script → asks (word_texts line) ≡ true
    → first_that_holds (word_tests (word_texts line)) ≡ None
asked_at done line rest script h e =
    let whole : asking_lines (done ++ line ∷ rest) ≡ asking_lines done ++ (length done + 1, word_texts line) ∷ asking_from (length done + 1 + 1) rest =
    asking_lines-append done (line ∷ rest) ∙ ap (λ ls. asking_lines done ++ ls) (asking_first (length done + 1) line rest e) in
    let one = zip_at (asking_lines done) (length done + 1, word_texts line) (asking_from (length done + 1 + 1) rest) script (subst (λ ls. AllZip IsLine ls script) whole h.asked) in
    act_passes (word_texts line) one.0.act one.1.act

-- no test holds of a line of a script
script_passes : (done : List Part) (line : Part) (rest : List Part) (script : List Line) → AreScript (done ++ line ∷ rest) script
    → first_that_holds (line_tests (length done + 1) (count_by is_product done + weight line) line) ≡ None
script_passes done line rest script h =
    let few = h.few_lines in
    let products : count_by is_product done + (weight line + count_by is_product rest) ≤ MOST_PRODUCTS =
    subst (λ n. n ≤ MOST_PRODUCTS) (sym (products_same (done ++ line ∷ rest) script h) ∙ sum_by-append weight done (line ∷ rest) ∙ ap (λ n. count_by is_product done + n) (sum_by-cons weight line rest)) h.few_products in
    line_passes (length done + 1) (count_by is_product done + weight line) line (omega (arith, length-append done (line ∷ rest)))
    (record { bytes = allowed_at done line rest h.bytes; words = asked_at done line rest script h }) (λ _. omega arith)

no_faults : (done rest : List Part) (script : List Line) → AreScript (done ++ rest) script → faults_from (length done + 1) (count_by is_product done) rest ≡ []
no_faults done [] script h = refl
no_faults done (line ∷ rest) script h =
    let number = length done + 1 in
    let tail : faults_from (number + 1) (count_by is_product done + weight line) rest ≡ [] =
    subst (λ n. faults_from (n + 1) (count_by is_product done + weight line) rest ≡ []) (length_push done line)
    (subst (λ p. faults_from (length (done ++ line ∷ []) + 1) p rest ≡ []) (count_by-one done line)
    (no_faults (done ++ line ∷ []) rest script (subst (λ ls. AreScript ls script) (sym (append_assoc done (line ∷ []) rest)) h))) in
    ap (λ o. cons_option (option_map (λ what. (number, what)) o) (faults_from (number + 1) (count_by is_product done + weight line) rest)) (script_passes done line rest script h) ∙ tail

pub script_has_no_fault : ScriptHasNoFault
script_has_no_fault text script h = ap (λ faults. slice_get faults 0) (faults_of-from (lines_of text) ∙ no_faults [] (lines_of text) script h.lines)

pub fault_has_no_script : FaultHasNoScript
fault_has_no_script text fault e script h = none-some fault (sym (script_has_no_fault text script h) ∙ e)

-- a line of which no test holds asks for an act or for nothing
passing_line : (number products : ℕ) (line : Part) → IsPassed number (products + 1) line → (act : Option Act) × IsReadAt number products line act
passing_line number products line h = go (asks (word_texts line)) refl
  where
    go : (b : Bool) → asks (word_texts line) ≡ b → (act : Option Act) × IsReadAt number products line act
    go false e = (None, record { read = record { bytes = h.fine.bytes; asked = e }; few_lines = h.few_lines; few_products = λ none. absurd (false≢true none) })
    go true e =
        let found_act = passing_act (word_texts line) e (h.fine.words e) in
        let read : IsRead line (Some found_act.0) = record { bytes = h.fine.bytes; asked = (e, found_act.1) } in (
          Some found_act.0,
          record {
            read = read;
            few_lines = h.few_lines;
            few_products = λ product. let few = h.few_products (read_product line (Some found_act.0) read ∙ product) in omega arith;
          },
        )

script_or_fault_from : (done rest : List Part) (script : List Line) → AreRead done script → ((s : List Line) × AreScript (done ++ rest) s) ⊎ IsSome (slice_get (faults_of (done ++ rest)) 0)
script_or_fault_from done [] script h = inl (script, subst (λ ls. AreScript ls script) (sym (append-nil done)) h.is)
script_or_fault_from done (line ∷ rest) script h =
    go (first_that_holds (line_tests (length done + 1) (product_count script + 1) line)) refl
    (λ next read. subst (λ ls. ((s : List Line) × AreScript ls s) ⊎ IsSome (slice_get (faults_of ls) 0)) (append_assoc done (line ∷ []) rest) (script_or_fault_from (done ++ line ∷ []) rest next read))
  where
    go : (o : Option ScriptWord) → first_that_holds (line_tests (length done + 1) (product_count script + 1) line) ≡ o
        → ((next : List Line) → AreRead (done ++ line ∷ []) next → ((s : List Line) × AreScript (done ++ line ∷ rest) s) ⊎ IsSome (slice_get (faults_of (done ++ line ∷ rest)) 0))
        → ((s : List Line) × AreScript (done ++ line ∷ rest) s) ⊎ IsSome (slice_get (faults_of (done ++ line ∷ rest)) 0)
    go (Some what) e rec = inr (ap is_some (found done script line rest what h e))
    go None e rec =
        let act = passing_line (length done + 1) (product_count script) line (passed (length done + 1) (product_count script + 1) line e) in
        rec (script ++ line_for (length done + 1) act.0) (read_more done script line act.0 h act.1)

pub script_or_fault : ScriptOrFault
script_or_fault text = ⊎_elim (λ s. inl (s.0, record { lines = s.1 })) (λ f. inr f) (script_or_fault_from [] (lines_of text) [] none_read)
