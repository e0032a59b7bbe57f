-- Runs of answers.
use Rattle.std.proofs.Common.{◌≡◌, ◌≤◌, ◌<◌, ◌⊎◌, ℕ, ◌+◌, true, List, [], ◌∷◌, ◌++◌, length, get_or, take, drop, Option, Some, None, ⊎_elim, refl, sym, ap, subst, ◌∙◌, arith, append_assoc, length-append, inl, inr}
use Rattle.std.proofs.lemmas.List.{take_more, take-append-le, append-nil}
use Rattle.std.proofs.Math.Seq.{take-append-add}
use Rattle.std.proofs.lemmas.Bool.{cases_eq}
use Rattle.std.proofs.lemmas.Option.{slice_get-get_or}
use Rattle.std.specs.Prelude.{◌≢◌, Result, Ok, Err, IfErr, IsErrAnd, OnErr, MatchOption, codes}
use Rattle.std.proofs.KnownBytes.{Appends-trans}
use Rattle.std.specs.Io.KnownBytes.{Appends}
use Rattle.scheme_io.specs.Bytes.{AppendsPart}
use Rattle.pair_colours.specs.Colouring.{PairColouring, FitsColouring, IsRawColouring}
use Rattle.pair_colours.specs.Naming.{rank_of}
use Rattle.pair_colours.proofs.LawProofs.{named_closure_exists, closure_is_raw, colour_set_or_not, edge_set_or_not}
use Rattle.recolour_bench.specs.EntryChains.{claim_by, round_claim_by}
use Rattle.recolour_bench.specs.History.{History, IsHistory, Starts, no_entry, present, present_chain}
use Rattle.recolour_bench.specs.declared.edits.EditFault.{EditFault}
use Rattle.recolour_bench.specs.declared.edits.EditFault.TheVariants as faults
use Rattle.recolour_bench.specs.Steps as steps
use Rattle.recolour_bench.specs.Words.{edit_word}
use Rattle.recolour_bench.proofs.LawProofs.{start_exists, start_is_history, step_exists, step_keeps, present_is_raw, chains_follow}
use Rattle.report_text.specs.EditLines.{ok_text, refused_text_of}
use Rattle.report_text.specs.Matrices.{show_text, raw_text}
use Rattle.report_text.specs.Classes.{classes_text_of}
use Rattle.report_text.specs.Constants.{constants_text_of}
use Rattle.report_text.specs.Tests.{tests_text_of}
use Rattle.report_text.specs.Arrays.{array_text_of}
use Rattle.trace_text.specs.TraceText.{trace_text}
use Rattle.trace_text.proofs.LawProofs.{round_chain_exists}
use Rattle.scheme_tests.specs.declared.properties.SchemeTests.{SchemeTests}
use Rattle.scheme_tests.specs.Law.{AreAnswers}
use Rattle.scheme_tests.proofs.LawProofs.{answers_exist}
use Rattle.pair_colours.specs.Closure.{IsClosureOf}
use Rattle.drg_arrays.specs.declared.answer.ArrayAnswer.{ArrayAnswer}
use Rattle.drg_arrays.specs.declared.answer.ArrayAnswer.TheVariants as arrays
use Rattle.drg_arrays.proofs.LawProofs.{answer_exists}
use Rattle.script_text.specs.declared.acts.Act.{Act}
use Rattle.script_text.specs.declared.acts.Act.TheVariants.{Set, Both, Fix, Join, Adopt, Undo, Redo, Show, Raw, Classes, Constants, Tests, Array, Closed, Quotient, Sub, Close, Good, Mergings, Trace, Write}
use Rattle.script_text.specs.declared.acts.Line.{Line}
use Rattle.script_text.specs.declared.acts.GraphForm.TheVariants.{Graph6, Digraph6}
use Rattle.relation_text.specs.Written.{graph6_of, digraph6_of}
use Rattle.report_text.specs.Graphs.{graph_line}
use Rattle.report_text.specs.declared.graphs.GraphNote.{GraphNote}
use Rattle.report_text.specs.declared.graphs.GraphNote.TheVariants as notes
use Rattle.cohere_core.specs.declared.answering.SessionFault.{SessionFault}
use Rattle.cohere_core.specs.declared.answering.SessionFault.TheVariants.{SinkFailed, NoMemory}
use Rattle.cohere_core.specs.ClosedSubsets.{ListsClosed, AnswersQuotient, AnswersSub}
use Rattle.cohere_core.specs.Fusions.{AnswersClose, ListsGood, AnswersMergings}
use Rattle.cohere_core.proofs.ClosedLists.{has_closed, closed_has_bytes}
use Rattle.cohere_core.proofs.Divisions.{has_quotient, quotient_has_bytes, has_sub, sub_has_bytes}
use Rattle.cohere_core.proofs.FusionAnswers.{has_close, close_has_bytes, has_good, good_has_bytes, has_mergings, mergings_has_bytes}
use Rattle.cohere_core.specs.Answer.{AnswersArray, WritesGraph, OfConfiguration, IsAccepted, IsHalfway, MoveTakesMemory, Moves, TakesMemory, Tells, TellsTrace, Answers, Runs, Answered, Stopped, move_of}
use Rattle.cohere_core.specs.Law.{OutputExists, RunExists}
use Rattle.cohere_core.specs.Added.{AddsUntil}
use Rattle.cohere_core.specs.Output.{ScriptOutput}
use Rattle.cohere_core.specs.Products.{AreProducts, HasProduct, left_by, left_after}
use Rattle.cohere_core.specs.Queries.{is_query}
use Rattle.cohere_core.proofs.Fronts.{nothing_until}
use Rattle.cohere_core.proofs.ActLemmas.{move_is_raw, only_asks}
use Rattle.cohere_core.proofs.ProductLists.{around, product_at, product_first, products_left, products_tail}

-- ---- one answer

-- every history has a configuration
pub has_configuration : (h : History) → IsHistory h → (P : PairColouring → List ℕ → Type 0)
    → ((K : PairColouring) → IsClosureOf K (present h) → FitsColouring K → (t : List ℕ) × P K t)
    → (t : List ℕ) × OfConfiguration h (λ K. P K t)
has_configuration h i P text =
    let raw = present_is_raw h i in
    let K = named_closure_exists (present h) raw.fits.colouring in
    let t = text K.0 K.1 (closure_is_raw (present h) K.0 raw K.1).fits in
    (t.0, record { configuration = K.0; closure = K.1; holds = t.1 })

-- every edit, undo and redo is answered
has_move : (h : History) (move : steps.Move) → steps.IsRawMove move → IsHistory h → (next : History) × (t : List ℕ) × Moves h move next t
has_move h move raw i =
    let s = step_exists h move raw i in
    let j = step_keeps h move s.0 i s.1 in
    ⊎_elim
    (λ accepts. let t = has_configuration s.0 j (λ K t. t ≡ ok_text K.size (rank_of K)) (λ K _ _. (ok_text K.size (rank_of K), refl)) in (s.0, t.0, inl (accepts, t.1)))
    (λ refuses. (s.0, refused_text_of (edit_word refuses.fault), inr (refuses.fault, refuses.refused, refuses.same, refl)))
    s.1

-- every history has a trace of every closure
has_trace : (h : History) (version : ℕ) (K : PairColouring) → IsHistory h → (t : List ℕ) × TellsTrace version h K t
has_trace h version K i =
    let follows = chains_follow h i h.position no_entry i.inside in
    let rounds = round_chain_exists (present_chain h) follows.0 follows.1 in
    ⊎_elim
    (λ one. (trace_text (claim_by (present_chain h) K), record { first = λ _. refl; second = λ other. absurd (other one) }))
    (λ other. (trace_text (round_claim_by rounds.0 K), record { first = λ one. absurd (other one); second = λ _. (rounds.0, rounds.1, refl) }))
    (cases_eq version 1)

has_query : (h : History) (act : Act) → IsHistory h → is_query act ≡ true → (t : List ℕ) × Tells h act t
has_query h Show i m = has_configuration h i (λ K t. t ≡ show_text K) (λ K _ _. (show_text K, refl))
has_query h Raw i m = (raw_text (present h), refl)
has_query h Classes i m = has_configuration h i (λ K t. t ≡ classes_text_of K) (λ K _ _. (classes_text_of K, refl))
has_query h Constants i m = has_configuration h i (λ K t. t ≡ constants_text_of K) (λ K _ _. (constants_text_of K, refl))
has_query h Tests i m =
    has_configuration h i (λ K t. (tests : SchemeTests) × AreAnswers K tests × (t ≡ tests_text_of tests))
    (λ K is fits. let answers = answers_exist K (record { colouring = fits.colouring; coherent = is.closure.coherent; named = is.named }) in (tests_text_of answers.0, (answers.0, answers.1, refl)))
has_query h Closed i m = has_configuration h i (λ K t. ListsClosed K t) (λ K _ _. has_closed K)
has_query h (Quotient set) i m = has_configuration h i (λ K t. AnswersQuotient K set t) (λ K is fits. has_quotient K set fits.colouring is.closure.coherent)
has_query h (Sub x set) i m = has_configuration h i (λ K t. AnswersSub K x set t) (λ K is fits. has_sub K x set fits.colouring is.closure.coherent)
has_query h (Close string) i m =
    has_configuration h i (λ K t. AnswersClose K string t) (λ K is fits. has_close K (record { colouring = fits.colouring; coherent = is.closure.coherent; named = is.named }) string)
has_query h Good i m = has_configuration h i (λ K t. ListsGood K t) (λ K _ _. has_good K)
has_query h (Mergings most after) i m = has_configuration h i (λ K t. AnswersMergings K most after t) (λ K _ _. has_mergings K most after)
has_query h (Trace version) i m = has_configuration h i (λ K t. TellsTrace version h K t) (λ K _ _. has_trace h version K i)
has_query h (Array set) i m =
    has_configuration h i (λ K t. AnswersArray K set t) (λ K _ fits. ⊎_elim
    (λ bad. (refused_text_of (codes "BadSet"), inl (bad, refl)))
    (λ good. (array_text_of good.1.0, inr (good.0, (good.1.0, good.1.1, refl))))
    (answer_exists K fits set))
has_query h (Write Graph6 set) i m =
    has_configuration h i (λ K t. WritesGraph K Graph6 set t) (λ K _ fits. ⊎_elim
    (λ good. (graph_line notes.Graph6 (graph6_of K set), inr (good, refl)))
    (λ bad. (refused_text_of (codes "BadSet"), inl (bad, refl)))
    (edge_set_or_not K fits.colouring set))
has_query h (Write Digraph6 set) i m =
    has_configuration h i (λ K t. WritesGraph K Digraph6 set t) (λ K _ fits. ⊎_elim
    (λ good. (graph_line notes.Digraph6 (digraph6_of K set), inr (good, refl)))
    (λ bad. (refused_text_of (codes "BadSet"), inl (bad, refl)))
    (colour_set_or_not K fits.colouring set))
has_query h (Set x y colour) i m = absurd cc
has_query h (Both x y colour) i m = absurd cc
has_query h (Fix x) i m = absurd cc
has_query h (Join keep gone) i m = absurd cc
has_query h Adopt i m = absurd cc
has_query h Undo i m = absurd cc
has_query h Redo i m = absurd cc
has_query h act i m = absurd cc

-- every act has an answer
pub has_answer : (h : History) (products : List PairColouring) (act : Act) → IsHistory h → HasProduct products act
    → (next : History) × (t : List ℕ) × Answers h products act next t
has_answer h products act i has =
    elim (move_of products act) as (λ m. move_of products act ≡ m → (next : History) × (t : List ℕ) × MatchOption m ((next ≡ h) × Tells h act t) (λ move. Moves h move next t)) [
      | None ↦ λ e. let t = has_query h act i (only_asks products act has e) in (h, t.0, (refl, t.1))
      | Some move ↦ λ e. has_move h move (move_is_raw products act move has.raw e) i
    ] refl

-- an answer leads to a history
pub answer_keeps : (h : History) (products : List PairColouring) (act : Act) (next : History) (t : List ℕ) → IsHistory h → Answers h products act next t → IsHistory next
answer_keeps h products act next t i a =
    elim (move_of products act) as (λ m. MatchOption m ((next ≡ h) × Tells h act t) (λ move. Moves h move next t) → IsHistory next) [
      | None ↦ λ q. subst IsHistory (sym q.0) i
      | Some move ↦ λ m. ⊎_elim (λ accepts. step_keeps h move next i (inl accepts.0)) (λ refused. subst IsHistory (sym refused.2) i) m
    ] a

-- and has bytes
array_has_bytes : (answer : ArrayAnswer) → 0 < length (array_text_of answer)
array_has_bytes (arrays.Array b c) = omega arith
array_has_bytes (arrays.Disconnected x y) = omega arith
array_has_bytes (arrays.Irregular x y u v) = omega arith

line_has_bytes : (form : GraphNote) (text : List ℕ) → 0 < length (graph_line form text)
line_has_bytes notes.Graph6 text = omega arith
line_has_bytes notes.Digraph6 text = omega arith

trace_has_bytes : (h : History) (version : ℕ) (K : PairColouring) (t : List ℕ) → TellsTrace version h K t → 0 < length t
trace_has_bytes h version K t a =
    ⊎_elim
    (λ one. subst (λ (s : List ℕ). 0 < length s) (sym (a.first one)) (omega arith))
    (λ other. subst (λ (s : List ℕ). 0 < length s) (sym (a.second other).2) (omega arith))
    (cases_eq version 1)

query_has_bytes : (h : History) (act : Act) (t : List ℕ) → Tells h act t → 0 < length t
query_has_bytes h Show t a = subst (λ (s : List ℕ). 0 < length s) (sym a.holds) (omega arith)
query_has_bytes h Raw t a = subst (λ (s : List ℕ). 0 < length s) (sym a) (omega arith)
query_has_bytes h Classes t a = subst (λ (s : List ℕ). 0 < length s) (sym a.holds) (omega arith)
query_has_bytes h Constants t a = subst (λ (s : List ℕ). 0 < length s) (sym a.holds) (omega arith)
query_has_bytes h Tests t a = subst (λ (s : List ℕ). 0 < length s) (sym a.holds.2) (omega arith)
query_has_bytes h Closed t a = closed_has_bytes a.configuration t a.holds
query_has_bytes h (Quotient set) t a = quotient_has_bytes a.configuration set t a.holds
query_has_bytes h (Sub x set) t a = sub_has_bytes a.configuration x set t a.holds
query_has_bytes h (Close string) t a = close_has_bytes a.configuration string t a.holds
query_has_bytes h Good t a = good_has_bytes a.configuration t a.holds
query_has_bytes h (Mergings most after) t a = mergings_has_bytes a.configuration most after t a.holds
query_has_bytes h (Trace version) t a = trace_has_bytes h version a.configuration t a.holds
query_has_bytes h (Array set) t a =
    ⊎_elim
    (λ bad. subst (λ (s : List ℕ). 0 < length s) (sym bad.1) (omega arith))
    (λ good. subst (λ (s : List ℕ). 0 < length s) (sym good.1.2) (array_has_bytes good.1.0))
    a.holds
query_has_bytes h (Write Graph6 set) t a =
    ⊎_elim
    (λ bad. subst (λ (s : List ℕ). 0 < length s) (sym bad.1) (omega arith))
    (λ good. subst (λ (s : List ℕ). 0 < length s) (sym good.1) (line_has_bytes notes.Graph6 (graph6_of a.configuration set)))
    a.holds
query_has_bytes h (Write Digraph6 set) t a =
    ⊎_elim
    (λ bad. subst (λ (s : List ℕ). 0 < length s) (sym bad.1) (omega arith))
    (λ good. subst (λ (s : List ℕ). 0 < length s) (sym good.1) (line_has_bytes notes.Digraph6 (digraph6_of a.configuration set)))
    a.holds
query_has_bytes h act t a = absurd a

answer_has_bytes : (h : History) (products : List PairColouring) (act : Act) (next : History) (t : List ℕ) → Answers h products act next t → 0 < length t
answer_has_bytes h products act next t a =
    elim (move_of products act) as (λ m. MatchOption m ((next ≡ h) × Tells h act t) (λ move. Moves h move next t) → 0 < length t) [
      | None ↦ λ q. query_has_bytes h act t q.1
      | Some move ↦ λ m. ⊎_elim (λ accepts. subst (λ (s : List ℕ). 0 < length s) (sym accepts.1.holds) (omega arith)) (λ refused. subst (λ (s : List ℕ). 0 < length s) (sym refused.3) (omega arith)) m
    ] a

-- an act that was not carried out, and whose refusal was not made
refused_halfway : (fault : EditFault) (h next : History) (move : steps.Move) → (fault ≡ faults.NoMemory → MoveTakesMemory move)
    → (fault ≢ faults.NoMemory → steps.IsRefused h move fault) → next ≡ h → IsHalfway (MoveTakesMemory move) h next (Moves h move next)
refused_halfway faults.NoMemory h next move memory refused same = inl (memory refl, same)
refused_halfway fault h next move memory refused same = inr (refused_text_of (edit_word fault), inr (fault, refused (λ e. cc), same, refl))

pub refused_unanswered : {T E : Type 0} (result : Result T E) (fault : EditFault) (h next : History) (move : steps.Move) → (fault ≡ faults.NoMemory → MoveTakesMemory move)
    → (fault ≢ faults.NoMemory → steps.IsRefused h move fault) → next ≡ h → OnErr result (IsHalfway (MoveTakesMemory move) h next (Moves h move next))
refused_unanswered (Ok text) fault h next move memory refused same = tt
refused_unanswered (Err wanting) fault h next move memory refused same = refused_halfway fault h next move memory refused same

-- an act that was carried out, and whose answer was not made
pub moved_unanswered : {T E : Type 0} (result : Result T E) (h next : History) (move : steps.Move) → steps.Accepts h move next → ((t : List ℕ) × IsAccepted next t)
    → OnErr result (IsHalfway (MoveTakesMemory move) h next (Moves h move next))
moved_unanswered (Ok text) h next move accepts has = tt
moved_unanswered (Err wanting) h next move accepts has = inr (has.0, inl (accepts, has.1))

-- what holds at the fault that is returned
pub at_fault : {T E : Type 0} (P : E → Type 0) (result : Result T E) (fault : E) → IsErrAnd result (λ e. e ≡ fault) → P fault → IfErr result P
at_fault P (Ok value) fault e p = tt
at_fault P (Err other) fault e p = subst P (sym e) p

-- ---- runs

pub runs_keep : (lines : List Line) (products : List PairColouring) (h end : History) (t : List ℕ) → IsHistory h → Runs h products lines end t → IsHistory end
runs_keep [] products h end t i run = subst IsHistory (sym run.0) i
runs_keep (line ∷ lines) products h end t i run =
    runs_keep lines (left_by products line.act) run.0 end run.2 (answer_keeps h products line.act run.0 run.1 i run.3) run.4

-- a run goes on with another, which takes the products that the first leaves
runs-append : (xs ys : List Line) (products : List PairColouring) (h m end : History) (t s : List ℕ) → Runs h products xs m t → Runs m (left_after products xs) ys end s
    → Runs h products (xs ++ ys) end (t ++ s)
runs-append [] ys products h m end t s first second =
    subst (λ (l : List ℕ). Runs h products ys end (l ++ s)) (sym first.1) (subst (λ (k : History). Runs k products ys end s) first.0 second)
runs-append (x ∷ xs) ys products h m end t s (next, one, rest, answers, run, is) second =
    (next, one, rest ++ s, answers, runs-append xs ys (left_by products x.act) next m end rest s run second, ap (λ (l : List ℕ). l ++ s) is ∙ append_assoc one rest s)

one_line : (line : Line) (products : List PairColouring) (m next : History) (t : List ℕ) → Answers m products line.act next t → Runs m products (line ∷ []) next t
one_line line products m next t a = (next, t, [], a, (refl, refl), sym (append-nil t))

pub run_exists : RunExists
run_exists h products [] i are = (h, [], (refl, refl))
run_exists h products (line ∷ lines) i are =
    let a = has_answer h products line.act i (product_first products line lines are) in
    let i2 = answer_keeps h products line.act a.0 a.1 i a.2 in
    let rest = run_exists a.0 (left_by products line.act) lines i2 (products_tail products line lines are) in
    (rest.0, a.1 ++ rest.1, (a.0, a.1, rest.1, a.2, rest.2, refl))

-- ---- lines that are answered one after the other

pub one_more : (lines : List Line) (products : List PairColouring) (i : ℕ) (d : Line) (h m next : History) (a b c : Option (List ℕ)) (first : List ℕ) → i < length lines
    → Answers m (left_after products (take i lines)) (get_or lines i d).act next first → Answered h products (take i lines) m a b → Appends b c first
    → Answered h products (take (i + 1) lines) next a c
one_more lines products i d h m next a b c first lt answers so_far added = (
  so_far.0 ++ first,
  subst (λ (l : List Line). Runs h products l next (so_far.0 ++ first)) (sym (take_more lines i d lt))
      (runs-append (take i lines) (get_or lines i d ∷ []) products h m next so_far.0 first so_far.1
      (one_line (get_or lines i d) (left_after products (take i lines)) m next first answers)),
  Appends-trans a b c _ _ so_far.2 added,
)

-- the sink failed in an answer
pub cut_short : (lines : List Line) (products : List PairColouring) (i : ℕ) (d : Line) (h m next : History) (a b c : Option (List ℕ)) (answer : List ℕ) → i < length lines
    → Answers m (left_after products (take i lines)) (get_or lines i d).act next answer → Answered h products (take i lines) m a b → AppendsPart b c answer
    → Stopped SinkFailed h products lines next a c
cut_short lines products i d h m next a b c answer lt answers so_far part = record {
  count = i;
  at = m;
  text = so_far.0;
  run = so_far.1;
  line = get_or lines i d;
  is_next = slice_get-get_or lines i d lt;
  next = next;
  answer = answer;
  answers = answers;
  part = part.0;
  proper = part.1;
  added = Appends-trans a b c _ _ so_far.2 part.2;
  whole = λ e. absurd cc;
  stands = inr refl;
  carried_out = λ e. refl;
}

-- an answer was not made, and the bench stands before its line or after it
not_made : (lines : List Line) (products : List PairColouring) (i : ℕ) (d : Line) (h m next bench : History) (a b : Option (List ℕ)) (answer : List ℕ) → i < length lines
    → Answers m (left_after products (take i lines)) (get_or lines i d).act next answer
    → Answered h products (take i lines) m a b → (TakesMemory (get_or lines i d).act × (bench ≡ m)) ⊎ (bench ≡ next) → Stopped NoMemory h products lines bench a b
not_made lines products i d h m next bench a b answer lt answers so_far stands = record {
  count = i;
  at = m;
  text = so_far.0;
  run = so_far.1;
  line = get_or lines i d;
  is_next = slice_get-get_or lines i d lt;
  next = next;
  answer = answer;
  answers = answers;
  part = 0;
  proper = answer_has_bytes m (left_after products (take i lines)) (get_or lines i d).act next answer answers;
  added = subst (Appends a b) (sym (append-nil so_far.0)) so_far.2;
  whole = λ e. refl;
  stands = stands;
  carried_out = λ e. absurd cc;
}

pub unanswered : (lines : List Line) (products : List PairColouring) (i : ℕ) (d : Line) (h m bench : History) (a b : Option (List ℕ)) → i < length lines → IsHistory m → AreProducts products lines
    → Answered h products (take i lines) m a b
    → IsHalfway (TakesMemory (get_or lines i d).act) m bench (Answers m (left_after products (take i lines)) (get_or lines i d).act bench) → Stopped NoMemory h products lines bench a b
unanswered lines products i d h m bench a b lt history are so_far (inl before) =
    let s = has_answer m (left_after products (take i lines)) (get_or lines i d).act history (product_at products lines i d lt are) in
    not_made lines products i d h m s.0 bench a b s.1 lt s.2 so_far (inl before)
unanswered lines products i d h m bench a b lt history are so_far (inr after) =
    not_made lines products i d h m bench bench a b after.0 lt after.1 so_far (inr refl)

-- ---- the output of a script

-- every script has an output
pub output_exists : OutputExists
output_exists C products lines raw are =
    let start = start_exists C raw in
    let run = run_exists start.0 products lines (start_is_history C start.0 raw start.1) are in
    (run.1, (start.0, start.1, run.0, run.2))

-- before the first line nothing of it was written
pub nothing_of_output : (C : PairColouring) (products : List PairColouring) (lines : List Line) (a : Option (List ℕ)) → IsRawColouring C → AreProducts products lines
    → AddsUntil NoMemory (ScriptOutput C products lines) a a
nothing_of_output C products lines a raw are = let t = output_exists C products lines raw are in nothing_until (ScriptOutput C products lines) t.0 a t.1

-- a front of the answers of the lines was added, and not all of them, along a run from this history
pub record AddsFrontOfRun (start : History) (products : List PairColouring) (lines : List Line) (old new : Option (List ℕ)) : Type 0 where
  pub end : History
  pub answers : List ℕ
  pub runs : Runs start products lines end answers
  pub part : ℕ
  pub proper : part < length answers
  pub added : Appends old new (take part answers)

-- what was written when a session stopped is such a front
pub front_of_run : (fault : SessionFault) (products : List PairColouring) (lines : List Line) (start bench : History) (a b : Option (List ℕ)) → IsHistory start
    → AreProducts products lines → Stopped fault start products lines bench a b → AddsFrontOfRun start products lines a b
front_of_run fault products lines start bench a b i are s =
    let left = left_after products (take s.count lines) in
    let after = answer_keeps s.at left s.line.act s.next s.answer (runs_keep (take s.count lines) products start s.at s.text i s.run) s.answers in
    let rest = run_exists s.next (left_by left s.line.act) (drop (s.count + 1) lines) after (products_left products lines s.count s.line s.is_next are) in
    let whole : Runs start products (take s.count lines ++ s.line ∷ drop (s.count + 1) lines) rest.0 (s.text ++ (s.answer ++ rest.1)) =
    runs-append (take s.count lines) (s.line ∷ drop (s.count + 1) lines) products start s.at rest.0 s.text (s.answer ++ rest.1) s.run
    (s.next, s.answer, rest.1, s.answers, rest.2, refl) in
    let le : s.part ≤ length s.answer = omega (arith, s.proper) in
    let front : take (length s.text + s.part) (s.text ++ (s.answer ++ rest.1)) ≡ s.text ++ take s.part s.answer =
    take-append-add s.text (s.answer ++ rest.1) s.part ∙ ap (λ (l : List ℕ). s.text ++ l) (take-append-le s.part s.answer rest.1 le) in
    record {
      end = rest.0;
      answers = s.text ++ (s.answer ++ rest.1);
      runs = subst (λ (l : List Line). Runs start products l rest.0 (s.text ++ (s.answer ++ rest.1))) (around lines s.count s.line s.is_next) whole;
      part = length s.text + s.part;
      proper = omega (arith, s.proper, length-append s.text (s.answer ++ rest.1), length-append s.answer rest.1);
      added = subst (Appends a b) (sym front) s.added;
    }

-- and so of a whole output
pub front_of_output : (fault : SessionFault) (C : PairColouring) (products : List PairColouring) (lines : List Line) (start bench : History) (a b : Option (List ℕ)) → IsRawColouring C
    → AreProducts products lines → Starts C start → Stopped fault start products lines bench a b → AddsUntil fault (ScriptOutput C products lines) a b
front_of_output fault C products lines start bench a b raw are starts s =
    let front = front_of_run fault products lines start bench a b (start_is_history C start raw starts) are s in
    record { text = front.answers; count = front.part; is = (start, starts, front.end, front.runs); proper = λ e. front.proper; added = front.added }
