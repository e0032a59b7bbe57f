-- Of the files of a task none is bad, or one is the first bad one.
use Rattle.std.proofs.Common.{◌≡◌, ◌≤◌, ◌⊎◌, ℕ, List, [], ◌∷◌, ◌++◌, length, Option, Some, None, refl, sym, ap, subst, ◌∙◌, arith, inl, inr, ⊎_elim}
use Rattle.std.specs.Prelude.{MatchOption, IsSome, map, ⊤}
use Rattle.std.specs.List.{AllByRecursion, AllZip}
use Rattle.std.specs.FinMap.{get}
use Rattle.std.proofs.lemmas.Bool.{cases_lt}
use Rattle.std.proofs.lemmas.Option.{none-some, same_Some, some_pair_parts}
use Rattle.scheme_io.specs.Files.{Files}
use Rattle.pair_colours.specs.Colouring.{PairColouring}
use Rattle.relation_text.specs.Relation.{IsRelationText}
use Rattle.relation_text.specs.Faults.{relation_fault}
use Rattle.relation_text.specs.declared.faults.RelationWord.{RelationWord}
use Rattle.relation_text.proofs.LawProofs.{reading_has_no_fault, reads_or_fails}
use Rattle.script_text.specs.Script.{IsScript}
use Rattle.script_text.specs.LineFaults.{script_fault}
use Rattle.script_text.specs.declared.acts.Line.{Line}
use Rattle.script_text.specs.declared.faults.ScriptWord.{ScriptWord}
use Rattle.script_text.proofs.LawProofs.{script_has_no_fault, script_is_unique, script_or_fault}
use Rattle.trace_text.specs.TraceFault.{trace_fault}
use Rattle.trace_text.specs.ClaimTexts.{IsTraceText}
use Rattle.trace_text.specs.declared.trace_faults.TraceWord.{TraceWord}
use Rattle.trace_text.proofs.LawProofs as traces
use Rattle.equitable.specs.ClaimText.{IsCellText}
use Rattle.equitable.specs.TextFault.{cell_text_fault}
use Rattle.equitable.specs.declared.text_faults.CellWord.{CellWord}
use Rattle.equitable.proofs.LawProofs as cells
use Rattle.cohere_inputs.specs.declared.faults.FileFault.{FileFault}
use Rattle.cohere_inputs.specs.declared.faults.FileFault.TheVariants.{Missing, TooLong, Relation, Script, Trace, CellTrace}
use Rattle.cohere_inputs.specs.Task.{Task, Run, Check, Demo, Ask, CheckCells, Table, RunWords}
use Rattle.cohere_inputs.specs.Kind.{Kind, limit_of}
use Rattle.cohere_inputs.specs.Kind as kinds
use Rattle.cohere_inputs.specs.Needs.{Need, named_files, relation_need, script_need, product_needs}
use Rattle.cohere_inputs.specs.Products.{products_of}
use Rattle.cohere_inputs.specs.Texts.{IsText, IsTextFault}
use Rattle.cohere_inputs.specs.Bad.{HoldsWithin, IsGood, IsTooLong, IsFault, IsRelationFile, IsScriptFile, AreProductNeeds, AreLoaded, IsReachedIn, IsFirstBad, NoneIsBad}
use Rattle.cohere_inputs.specs.Law.{NoneOrFirstBad, NoneIsFirst, FirstBadIsUnique, InputsExist, InputsAreGood}
use Rattle.cohere_inputs.proofs.ProductFiles.{names_good}

-- ---- one text

-- a text that is what it must be has no fault
text_has_no_fault : (kind : Kind) (bytes : List ℕ) (fault : FileFault) → IsText kind bytes → IsTextFault kind bytes fault → ⊥
text_has_no_fault (kinds.Relation line) bytes (Relation what at) good bad = none-some (what, at) (sym (reading_has_no_fault bytes line good.0 good.1) ∙ bad)
text_has_no_fault kinds.Script bytes (Script line what) good bad = none-some (line, what) (sym (script_has_no_fault bytes good.0 good.1) ∙ bad)
text_has_no_fault kinds.Trace bytes (Trace line what) good bad = none-some (line, what) (sym (traces.reading_has_no_fault bytes good.0 good.1) ∙ bad)
text_has_no_fault kinds.CellTrace bytes (CellTrace line what) good bad = none-some (line, what) (sym (cells.reading_has_no_fault bytes good.0 good.1) ∙ bad)
text_has_no_fault _ bytes _ good bad = absurd bad

-- and no text has two
text_fault_is_unique : (kind : Kind) (bytes : List ℕ) (fault another : FileFault) → IsTextFault kind bytes fault → IsTextFault kind bytes another → fault ≡ another
text_fault_is_unique (kinds.Relation line) bytes (Relation what at) (Relation word place) a b =
    let parts = some_pair_parts what word at place (sym a ∙ b) in
    ap (λ w. Relation w at) parts.0 ∙ ap (Relation word) parts.1
text_fault_is_unique (kinds.Relation line) bytes (Relation what at) _ a b = absurd b
text_fault_is_unique kinds.Script bytes (Script line what) (Script number word) a b =
    let parts = some_pair_parts line number what word (sym a ∙ b) in
    ap (λ n. Script n what) parts.0 ∙ ap (Script number) parts.1
text_fault_is_unique kinds.Script bytes (Script line what) _ a b = absurd b
text_fault_is_unique kinds.Trace bytes (Trace line what) (Trace number word) a b =
    let parts = some_pair_parts line number what word (sym a ∙ b) in
    ap (λ n. Trace n what) parts.0 ∙ ap (Trace number) parts.1
text_fault_is_unique kinds.Trace bytes (Trace line what) _ a b = absurd b
text_fault_is_unique kinds.CellTrace bytes (CellTrace line what) (CellTrace number word) a b =
    let parts = some_pair_parts line number what word (sym a ∙ b) in
    ap (λ n. CellTrace n what) parts.0 ∙ ap (CellTrace number) parts.1
text_fault_is_unique kinds.CellTrace bytes (CellTrace line what) _ a b = absurd b
text_fault_is_unique _ bytes _ _ a b = absurd a

-- a text is what it must be, or has a fault
read_or_fault : {F R : Type 0} (Reads : R → Type 0) (Faulty : FileFault → Type 0) (o : Option F) → MatchOption o ((r : R) × Reads r) (λ _. (r : R) → ¬ Reads r)
    → ((f : F) → o ≡ Some f → (fault : FileFault) × Faulty fault) → ((r : R) × Reads r) ⊎ ((fault : FileFault) × Faulty fault)
read_or_fault Reads Faulty None read bad = inl read
read_or_fault Reads Faulty (Some f) read bad = inr (bad f refl)

script_fault_of : (bytes : List ℕ) (o : Option (ℕ × ScriptWord)) → script_fault bytes ≡ o → IsSome o → (fault : FileFault) × IsTextFault kinds.Script bytes fault
script_fault_of bytes None e some = absurd cc
script_fault_of bytes (Some (line, what)) e some = (Script line what, e)

-- a line of a relation counts from 1
abbrev IsCounted : Kind → Type 0
IsCounted (kinds.Relation line) = 1 ≤ line
IsCounted _ = ⊤

text_or_fault : (kind : Kind) (bytes : List ℕ) → IsCounted kind → IsText kind bytes ⊎ ((fault : FileFault) × IsTextFault kind bytes fault)
text_or_fault (kinds.Relation line) bytes counted =
    read_or_fault (IsRelationText bytes line) (IsTextFault (kinds.Relation line) bytes) (relation_fault bytes line) (reads_or_fails bytes line counted)
    (λ (f : RelationWord × ℕ) e. (Relation f.0 f.1, e))
text_or_fault kinds.Script bytes counted =
    ⊎_elim (λ (read : (lines : List Line) × IsScript bytes lines). inl read)
    (λ some. inr (script_fault_of bytes (script_fault bytes) refl some)) (script_or_fault bytes)
text_or_fault kinds.Trace bytes counted =
    read_or_fault (IsTraceText bytes) (IsTextFault kinds.Trace bytes) (trace_fault bytes) (traces.trace_reads_or_fails bytes) (λ (f : ℕ × TraceWord) e. (Trace f.0 f.1, e))
text_or_fault kinds.CellTrace bytes counted =
    read_or_fault (IsCellText bytes) (IsTextFault kinds.CellTrace bytes) (cell_text_fault bytes) (cells.cell_text_reads_or_fails bytes) (λ (f : ℕ × CellWord) e. (CellTrace f.0 f.1, e))

-- ---- one file

-- a file holds one text
one_text : (files : Files) (name a b : List ℕ) → get files name ≡ Some a → get files name ≡ Some b → a ≡ b
one_text files name a b e f = same_Some a b (sym e ∙ f)

-- no text is missing or too long
no_text_missing : (kind : Kind) (bytes : List ℕ) → IsTextFault kind bytes Missing → ⊥
no_text_missing (kinds.Relation line) bytes bad = bad
no_text_missing kinds.Script bytes bad = bad
no_text_missing kinds.Trace bytes bad = bad
no_text_missing kinds.CellTrace bytes bad = bad

no_text_too_long : (kind : Kind) (bytes : List ℕ) → IsTextFault kind bytes TooLong → ⊥
no_text_too_long (kinds.Relation line) bytes bad = bad
no_text_too_long kinds.Script bytes bad = bad
no_text_too_long kinds.Trace bytes bad = bad
no_text_too_long kinds.CellTrace bytes bad = bad

-- a fault of a text is that of its file
text_fault-file : (files : Files) (need : Need) (bytes : List ℕ) (fault : FileFault) → HoldsWithin files need bytes → IsTextFault need.kind bytes fault → IsFault files need fault
text_fault-file files need bytes Missing file bad = absurd (no_text_missing need.kind bytes bad)
text_fault-file files need bytes TooLong file bad = absurd (no_text_too_long need.kind bytes bad)
text_fault-file files need bytes _ file bad = (bytes, file, bad)

good_is_not_bad : (files : Files) (need : Need) (fault : FileFault) → IsGood files need → IsFault files need fault → ⊥
good_is_not_bad files need Missing good bad = none-some good.bytes (sym bad ∙ good.file.holds)
good_is_not_bad files need TooLong good bad = omega (arith, good.file.short, bad.2, ap length (one_text files need.name bad.0 good.bytes bad.1 good.file.holds))
good_is_not_bad files need fault good bad =
    let same = one_text files need.name bad.0 good.bytes bad.1.holds good.file.holds in
    text_has_no_fault need.kind good.bytes fault good.text (subst (λ (b : List ℕ). IsTextFault need.kind b fault) same bad.2)

-- a file that is within its limit is not too long
not_too_long : (files : Files) (need : Need) (bytes : List ℕ) → HoldsWithin files need bytes → IsTooLong files need → ⊥
not_too_long files need bytes file long = omega (arith, file.short, long.2, ap length (one_text files need.name long.0 bytes long.1 file.holds))

file_fault_is_unique : (files : Files) (need : Need) (fault another : FileFault) → IsFault files need fault → IsFault files need another → fault ≡ another
file_fault_is_unique files need Missing Missing a b = refl
file_fault_is_unique files need Missing TooLong a b = absurd (none-some b.0 (sym a ∙ b.1))
file_fault_is_unique files need Missing another a b = absurd (none-some b.0 (sym a ∙ b.1.holds))
file_fault_is_unique files need TooLong TooLong a b = refl
file_fault_is_unique files need TooLong Missing a b = absurd (none-some a.0 (sym b ∙ a.1))
file_fault_is_unique files need TooLong another a b = absurd (not_too_long files need b.0 b.1 a)
file_fault_is_unique files need fault Missing a b = absurd (none-some a.0 (sym b ∙ a.1.holds))
file_fault_is_unique files need fault TooLong a b = absurd (not_too_long files need a.0 a.1 b)
file_fault_is_unique files need fault another a b =
    let same = one_text files need.name b.0 a.0 b.1.holds a.1.holds in
    text_fault_is_unique need.kind a.0 fault another a.2 (subst (λ (t : List ℕ). IsTextFault need.kind t another) same b.2)

-- a file is good, or has a fault
good_or_fault : (files : Files) (need : Need) → IsCounted need.kind → IsGood files need ⊎ ((fault : FileFault) × IsFault files need fault)
good_or_fault files need counted = from (get files need.name) refl
  where
    within : (bytes : List ℕ) → HoldsWithin files need bytes → IsGood files need ⊎ ((fault : FileFault) × IsFault files need fault)
    within bytes file =
        ⊎_elim (λ text. inl (record { bytes = bytes; file = file; text = text }))
        (λ (bad : (fault : FileFault) × IsTextFault need.kind bytes fault). inr (bad.0, text_fault-file files need bytes bad.0 file bad.1)) (text_or_fault need.kind bytes counted)

    from : (o : Option (List ℕ)) → get files need.name ≡ o → IsGood files need ⊎ ((fault : FileFault) × IsFault files need fault)
    from None e = inr (Missing, e)
    from (Some bytes) e = elim (cases_lt (limit_of need.kind) (length bytes)) [
      | inl long ↦ inr (TooLong, (bytes, e, long))
      | inr short ↦ within bytes (record { holds = e; short = short })
    ]

-- ---- a list of files

-- a file of the list that is bad, and none before it
abbrev HasFirstBad : Files → List Need → Type 0
HasFirstBad files needs = (need : Need) × (fault : FileFault) × IsReachedIn files needs need × IsFault files need fault

none_or_first_in : (files : Files) (needs : List Need) → AllByRecursion (λ need. IsCounted need.kind) needs → AllByRecursion (IsGood files) needs ⊎ HasFirstBad files needs
none_or_first_in files [] counted = inl tt
none_or_first_in files (first ∷ rest) counted = from (none_or_first_in files rest counted.1) (good_or_fault files first counted.0)
  where
    from : AllByRecursion (IsGood files) rest ⊎ HasFirstBad files rest → IsGood files first ⊎ ((fault : FileFault) × IsFault files first fault)
        → AllByRecursion (IsGood files) (first ∷ rest) ⊎ HasFirstBad files (first ∷ rest)
    from others (inr bad) = inr (first, bad.0, inl refl, bad.1)
    from (inl others) (inl good) = inl (good, others)
    from (inr bad) (inl good) = inr (bad.0, bad.1, inr (good, bad.2), bad.3)

none_is_first_in : (files : Files) (needs : List Need) (need : Need) (fault : FileFault) → AllByRecursion (IsGood files) needs → IsReachedIn files needs need → IsFault files need fault → ⊥
none_is_first_in files [] need fault good reached bad = reached
none_is_first_in files (first ∷ rest) need fault good (inl same) bad = good_is_not_bad files first fault good.0 (subst (λ n. IsFault files n fault) same bad)
none_is_first_in files (first ∷ rest) need fault good (inr later) bad = none_is_first_in files rest need fault good.1 later.1 bad

same_first_in : (files : Files) (needs : List Need) (need other : Need) (fault another : FileFault) → IsReachedIn files needs need → IsFault files need fault
    → IsReachedIn files needs other → IsFault files other another → (need ≡ other) × (fault ≡ another)
same_first_in files [] need other fault another a bad b worse = absurd a
same_first_in files (first ∷ rest) need other fault another (inl a) bad (inl b) worse =
    let same = a ∙ sym b in
    (same, file_fault_is_unique files other fault another (subst (λ n. IsFault files n fault) same bad) worse)
same_first_in files (first ∷ rest) need other fault another (inl a) bad (inr b) worse = absurd (good_is_not_bad files first fault b.0 (subst (λ n. IsFault files n fault) a bad))
same_first_in files (first ∷ rest) need other fault another (inr a) bad (inl b) worse = absurd (good_is_not_bad files first another a.0 (subst (λ n. IsFault files n another) b worse))
same_first_in files (first ∷ rest) need other fault another (inr a) bad (inr b) worse = same_first_in files rest need other fault another a.1 bad b.1 worse

-- ---- the files of a task

-- a file is one script
one_script : (files : Files) (name : List ℕ) (lines other : List Line) → IsScriptFile files name lines → IsScriptFile files name other → lines ≡ other
one_script files name lines other a b =
    let same = one_text files name b.bytes a.bytes b.file.holds a.file.holds in
    script_is_unique a.bytes lines other a.reads (subst (λ (t : List ℕ). IsScript t other) same b.reads)

good_script : (files : Files) (name : List ℕ) (lines : List Line) → IsScriptFile files name lines → IsGood files (script_need name)
good_script files name lines read = record { bytes = read.bytes; file = read.file; text = (lines, read.reads) }

-- each run has its product files
pub has_products : (files : Files) (run : RunWords) → (products : List Need) × AreProductNeeds files run products
has_products files run =
    ⊎_elim
    (λ good. (product_needs good.text.0, inl (good.text.0, record { bytes = good.bytes; file = good.file; reads = good.text.1 }, refl)))
    (λ (bad : (fault : FileFault) × IsFault files (script_need run.script) fault). ([], inr (λ good. good_is_not_bad files (script_need run.script) bad.0 good bad.1, refl)))
    (good_or_fault files (script_need run.script) tt)

-- and only these
one_products : (files : Files) (run : RunWords) (needs other : List Need) → AreProductNeeds files run needs → AreProductNeeds files run other → needs ≡ other
one_products files run needs other (inl a) (inl b) = a.2 ∙ ap product_needs (one_script files run.script a.0 b.0 a.1 b.1) ∙ sym b.2
one_products files run needs other (inl a) (inr b) = absurd (b.0 (good_script files run.script a.0 a.1))
one_products files run needs other (inr a) (inl b) = absurd (a.0 (good_script files run.script b.0 b.1))
one_products files run needs other (inr a) (inr b) = a.1 ∙ sym b.1

one_loading : (files : Files) (task : Task) (needs other : List Need) → AreLoaded files task needs → AreLoaded files task other → needs ≡ other
one_loading files (Run run) needs other a b = a.2 ∙ ap (λ products. named_files (Run run) ++ products) (one_products files run a.0 b.0 a.1 b.1) ∙ sym b.2
one_loading files (Check trace) needs other a b = a ∙ sym b
one_loading files (Demo number) needs other a b = a ∙ sym b
one_loading files (Ask words) needs other a b = a ∙ sym b
one_loading files (CheckCells trace) needs other a b = a ∙ sym b
one_loading files (Table words) needs other a b = a ∙ sym b

-- a product is read at a line
names_counted : (names : List (List ℕ)) → AllByRecursion (λ need. IsCounted need.kind) (map (λ name. relation_need name 1) names)
names_counted [] = tt
names_counted (name ∷ names) = (omega arith, names_counted names)

products_counted : (files : Files) (run : RunWords) (needs : List Need) → AreProductNeeds files run needs → AllByRecursion (λ need. IsCounted need.kind) needs
products_counted files run needs (inl a) = subst (λ (ns : List Need). AllByRecursion (λ need. IsCounted need.kind) ns) (sym a.2) (names_counted (products_of a.0))
products_counted files run needs (inr a) = subst (λ (ns : List Need). AllByRecursion (λ need. IsCounted need.kind) ns) (sym a.1) tt

-- ---- a task

of_loaded : (files : Files) (task : Task) (needs : List Need) → AreLoaded files task needs → AllByRecursion (λ need. IsCounted need.kind) needs
    → NoneIsBad files task ⊎ ((need : Need) × (fault : FileFault) × IsFirstBad files task need fault)
of_loaded files task needs loaded counted =
    ⊎_elim (λ good. inl (record { needs = needs; loaded = loaded; good = good }))
    (λ (bad : HasFirstBad files needs). inr (bad.0, bad.1, (record { needs = needs; loaded = loaded; reached = bad.2 }, bad.3)))
    (none_or_first_in files needs counted)

pub none_or_first_bad : NoneOrFirstBad
none_or_first_bad files (Run run) asked =
    let products = has_products files run in
    of_loaded files (Run run) (named_files (Run run) ++ products.0) (products.0, products.1, refl) (asked, (tt, products_counted files run products.0 products.1))
none_or_first_bad files (Check trace) asked = of_loaded files (Check trace) (named_files (Check trace)) refl (tt, tt)
none_or_first_bad files (Demo number) asked = of_loaded files (Demo number) (named_files (Demo number)) refl tt
none_or_first_bad files (Ask words) asked = of_loaded files (Ask words) (named_files (Ask words)) refl (omega arith, tt)
none_or_first_bad files (CheckCells trace) asked = of_loaded files (CheckCells trace) (named_files (CheckCells trace)) refl (tt, tt)
none_or_first_bad files (Table words) asked = of_loaded files (Table words) (named_files (Table words)) refl tt

pub none_is_first : NoneIsFirst
none_is_first files task need fault good bad =
    let same = one_loading files task good.needs bad.0.needs good.loaded bad.0.loaded in
    none_is_first_in files bad.0.needs need fault (subst (λ (needs : List Need). AllByRecursion (IsGood files) needs) same good.good) bad.0.reached bad.1

pub first_bad_is_unique : FirstBadIsUnique
first_bad_is_unique files task need other fault another a b =
    let same = one_loading files task b.0.needs a.0.needs b.0.loaded a.0.loaded in
    same_first_in files a.0.needs need other fault another a.0.reached a.1 (subst (λ (needs : List Need). IsReachedIn files needs other) same b.0.reached) b.1

-- ---- what is read of good files

-- the relations of good product files
good_products : (files : Files) (names : List (List ℕ)) → AllByRecursion (IsGood files) (map (λ name. relation_need name 1) names)
    → (products : List PairColouring) × AllZip (λ name C. IsRelationFile files name 1 C) names products
good_products files [] good = ([], tt)
good_products files (name ∷ names) good =
    let rest = good_products files names good.1 in
    (good.0.text.0 ∷ rest.0, (record { bytes = good.0.bytes; file = good.0.file; reads = good.0.text.1 }, rest.1))

pub inputs_exist : InputsExist
inputs_exist files run none =
    let products = none.loaded.0 in
    let good = subst (λ (needs : List Need). AllByRecursion (IsGood files) needs) none.loaded.2 none.good in
    let relation : IsRelationFile files run.relation run.line good.0.text.0 = record { bytes = good.0.bytes; file = good.0.file; reads = good.0.text.1 } in
    ⊎_elim
    (λ (a : (lines : List Line) × IsScriptFile files run.script lines × (products ≡ product_needs lines)).
    let rest = good_products files (products_of a.0) (subst (λ (needs : List Need). AllByRecursion (IsGood files) needs) a.2 good.1.1) in
    (good.0.text.0, a.0, rest.0, record { named = record { relation = relation; script = a.1 }; multiply = rest.1 }))
    (λ (b : (¬ IsGood files (script_need run.script)) × (products ≡ [])). absurd (b.0 good.1.0))
    none.loaded.1

pub inputs_are_good : InputsAreGood
inputs_are_good files run C lines products read = record {
  needs = named_files (Run run) ++ product_needs lines;
  loaded = (product_needs lines, inl (lines, read.named.script, refl), refl);
  good = (
    record { bytes = read.named.relation.bytes; file = read.named.relation.file; text = (C, read.named.relation.reads) },
    (good_script files run.script lines read.named.script, names_good files (products_of lines) products read.multiply),
  );
}
