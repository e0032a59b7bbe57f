-- From alike histories the lines of a script have answers that agree line by line, and lead to alike histories.
use Rattle.std.proofs.Common.{◌≡◌, ◌⊎◌, ℕ, Bool, true, false, List, [], ◌∷◌, ◌++◌, Some, None, ⊎_elim, refl, sym, ap, subst, ◌∙◌, inl, suc, arith}
use Rattle.std.proofs.lemmas.Option.{none-some}
use Rattle.std.specs.Prelude.{◌≢◌, ◌↔◌, IsTrue, MatchOption}
use Rattle.pair_colours.specs.Colouring.{PairColouring}
use Rattle.pair_colours.specs.Closure.{IsClosureOf}
use Rattle.pair_colours.specs.Naming.{rank_of}
use Rattle.pair_colours.proofs.LawProofs.{named_closure_is_unique}
use Rattle.struct_consts.specs.ClassData.{IsConfiguration}
use Rattle.recolour_bench.specs.EntryChains.{claim_by, round_claim_by}
use Rattle.recolour_bench.specs.History.{History, IsHistory, AreAlike, present, present_chain}
use Rattle.recolour_bench.specs.declared.edits.EditFault.{EditFault}
use Rattle.recolour_bench.specs.Steps as steps
use Rattle.recolour_bench.specs.Words.{edit_word}
use Rattle.recolour_bench.proofs.LawProofs.{start_is_history, start_is_unique, step_is_unique, not_both, refusal_is_unique, refusal_is_alike, present_is_raw, present_is_unique, chain_is_unique, round_chain_is_unique}
use Rattle.report_text.specs.EditLines.{ok_text, refused_text_of}
use Rattle.report_text.specs.Matrices.{show_text, raw_text}
use Rattle.report_text.specs.Classes.{classes_text_of}
use Rattle.report_text.specs.Constants.{constants_text_of}
use Rattle.report_text.specs.Tests.{tests_text_of}
use Rattle.report_text.specs.Arrays.{array_text_of}
use Rattle.trace_text.specs.declared.stage_list.Stage.{Stage}
use Rattle.trace_text.specs.TraceText.{trace_text}
use Rattle.scheme_tests.specs.declared.properties.SchemeTests.{SchemeTests}
use Rattle.scheme_tests.specs.Law.{AreAnswers}
use Rattle.drg_arrays.proofs.LawProofs.{answer_is_unique}
use Rattle.script_text.specs.declared.acts.Act.{Act}
use Rattle.script_text.specs.declared.acts.Act.TheVariants.{Closed, Quotient, Sub, Close, Good, Mergings, Trace, Show, Raw, Classes, Constants, Tests, Array, Write}
use Rattle.script_text.specs.declared.acts.Line.{Line}
use Rattle.script_text.specs.declared.acts.GraphForm.{GraphForm}
use Rattle.script_text.specs.declared.acts.GraphForm.TheVariants.{Graph6, Digraph6}
use Rattle.cohere_core.specs.ClosedSubsets.{ListsClosed, AnswersQuotient, AnswersSub}
use Rattle.cohere_core.specs.Fusions.{AnswersClose, ListsGood, AnswersMergings}
use Rattle.cohere_core.proofs.ClosedLists.{one_closed}
use Rattle.cohere_core.proofs.Divisions.{one_quotient, one_sub}
use Rattle.cohere_core.proofs.FusionAnswers.{one_close, one_good, one_mergings}
use Rattle.cohere_core.specs.Answer.{AnswersArray, WritesGraph, OfConfiguration, IsAccepted, Moves, Tells, TellsTrace, Answers, move_of}
use Rattle.cohere_core.specs.Agreement.{Agree, AgreeLineByLine, AreTracesOfOne}
use Rattle.cohere_core.specs.Law.{HasNoTrace, OutputsAgree, RunsAgree, OutputIsUnique, RunIsUnique}
use Rattle.cohere_core.specs.Products.{left_by}
use Rattle.cohere_core.proofs.Runs.{answer_keeps}

-- ---- one answer of a query

-- alike histories have one configuration
one_configuration : (h k : History) (K L : PairColouring) → IsHistory h → AreAlike h k → IsClosureOf K (present h) → IsClosureOf L (present k) → L ≡ K
one_configuration h k K L i alike a b =
    named_closure_is_unique (present h) L K (present_is_raw h i).fits.colouring (subst (IsClosureOf L) (sym (present_is_unique h k i alike)) b) a

-- what is said of it is said of one colouring
pub one_text : (h k : History) (P : PairColouring → List ℕ → Type 0) (t u : List ℕ) → IsHistory h → AreAlike h k → ((K : PairColouring) → P K t → P K u → t ≡ u)
    → OfConfiguration h (λ K. P K t) → OfConfiguration k (λ K. P K u) → t ≡ u
one_text h k P t u i alike one a b =
    let same = one_configuration h k a.configuration b.configuration i alike a.closure b.closure in
    one a.configuration a.holds (subst (λ (K : PairColouring). P K u) same b.holds)

-- which is a configuration
is_configuration : (h : History) (K : PairColouring) → IsHistory h → IsClosureOf K (present h) → IsConfiguration K
is_configuration h K i is = record { colouring = is.closure.colouring; coherent = is.closure.coherent; named = is.named }

one_configured : (h k : History) (P : PairColouring → List ℕ → Type 0) (t u : List ℕ) → IsHistory h → AreAlike h k
    → ((K : PairColouring) → IsConfiguration K → P K t → P K u → t ≡ u) → OfConfiguration h (λ K. P K t) → OfConfiguration k (λ K. P K u) → t ≡ u
one_configured h k P t u i alike one a b =
    let same = one_configuration h k a.configuration b.configuration i alike a.closure b.closure in
    one a.configuration (is_configuration h a.configuration i a.closure) a.holds (subst (λ (K : PairColouring). P K u) same b.holds)

one_boolean : (a b : Bool) (P : Type 0) → (IsTrue a ↔ P) → (IsTrue b ↔ P) → a ≡ b
one_boolean true true P f g = refl
one_boolean true false P f g = sym (g.1 (f.0 refl))
one_boolean false true P f g = f.1 (g.0 refl)
one_boolean false false P f g = refl

one_tests : (K : PairColouring) (t u : SchemeTests) → AreAnswers K t → AreAnswers K u → t ≡ u
one_tests K t u a b =
    let homogeneous = one_boolean t.homogeneous u.homogeneous _ a.homogeneous b.homogeneous in
    let symmetric = one_boolean t.symmetric u.symmetric _ a.symmetric b.symmetric in
    let commutative = one_boolean t.commutative u.commutative _ a.commutative b.commutative in
    let thin = one_boolean t.thin u.thin _ a.thin b.thin in
    let primitive = one_boolean t.primitive u.primitive _ a.primitive b.primitive in
    λ i. record { homogeneous = homogeneous i; symmetric = symmetric i; commutative = commutative i; thin = thin i; primitive = primitive i }

-- a text that is said where P fails, or else one that is determined
one_side : (P : Type 0) (A B : Type 0) (t u bad : List ℕ) → (A → B → t ≡ u) → (¬ P × (t ≡ bad)) ⊎ (P × A) → (¬ P × (u ≡ bad)) ⊎ (P × B) → t ≡ u
one_side P A B t u bad one a b =
    ⊎_elim
    (λ x. ⊎_elim (λ y. x.1 ∙ sym y.1) (λ y. absurd (x.0 y.0)) b)
    (λ x. ⊎_elim (λ y. absurd (y.0 x.0)) (λ y. one x.1 y.1) b)
    a

one_array : (K : PairColouring) (set t u : List ℕ) → AnswersArray K set t → AnswersArray K set u → t ≡ u
one_array K set t u a b = one_side _ _ _ t u _ (λ x y. x.2 ∙ ap array_text_of (answer_is_unique K set y.0 y.1 x.0 x.1) ∙ sym y.2) a b

one_graph : (K : PairColouring) (form : GraphForm) (set t u : List ℕ) → WritesGraph K form set t → WritesGraph K form set u → t ≡ u
one_graph K Graph6 set t u a b = one_side _ _ _ t u _ (λ x y. x ∙ sym y) a b
one_graph K Digraph6 set t u a b = one_side _ _ _ t u _ (λ x y. x ∙ sym y) a b

-- the traces of version 1 of alike histories claim one closure, by chains of the same colours
traces_agree : (h k : History) (t u : List ℕ) → IsHistory h → AreAlike h k → Tells h (Trace 1) t → Tells k (Trace 1) u → AreTracesOfOne t u
traces_agree h k t u i alike a b = record {
  closure = a.configuration;
  chain = present_chain h;
  other = present_chain k;
  colours = chain_is_unique h k i alike;
  text = a.holds.first refl;
  other_text = b.holds.first refl ∙ ap (λ (K : PairColouring). trace_text (claim_by (present_chain k) K)) (one_configuration h k a.configuration b.configuration i alike a.closure b.closure);
}

-- and those of the other have the same rounds
one_trace : (h k : History) (version : ℕ) (K : PairColouring) (t u : List ℕ) → IsHistory h → AreAlike h k → version ≢ 1
    → TellsTrace version h K t → TellsTrace version k K u → t ≡ u
one_trace h k version K t u i alike other a b =
    let x = a.second other in
    let y = b.second other in
    x.2 ∙ ap (λ (rounds : List Stage). trace_text (round_claim_by rounds K)) (round_chain_is_unique h k x.0 y.0 i alike x.1 y.1) ∙ sym y.2

one_query : (h k : History) (act : Act) (t u : List ℕ) → IsHistory h → AreAlike h k → act ≢ Trace 1 → Tells h act t → Tells k act u → t ≡ u
one_query h k Show t u i alike n a b = one_text h k (λ K t. t ≡ show_text K) t u i alike (λ K x y. x ∙ sym y) a b
one_query h k Raw t u i alike n a b = a ∙ ap raw_text (present_is_unique h k i alike) ∙ sym b
one_query h k Classes t u i alike n a b = one_text h k (λ K t. t ≡ classes_text_of K) t u i alike (λ K x y. x ∙ sym y) a b
one_query h k Constants t u i alike n a b = one_text h k (λ K t. t ≡ constants_text_of K) t u i alike (λ K x y. x ∙ sym y) a b
one_query h k Tests t u i alike n a b =
    one_text h k (λ K t. (tests : SchemeTests) × AreAnswers K tests × (t ≡ tests_text_of tests)) t u i alike
    (λ K x y. x.2 ∙ ap tests_text_of (one_tests K x.0 y.0 x.1 y.1) ∙ sym y.2) a b
one_query h k (Array set) t u i alike n a b = one_text h k (λ K t. AnswersArray K set t) t u i alike (λ K x y. one_array K set t u x y) a b
one_query h k Closed t u i alike n a b = one_text h k (λ K t. ListsClosed K t) t u i alike (λ K x y. one_closed K t u x y) a b
one_query h k (Quotient set) t u i alike n a b = one_text h k (λ K t. AnswersQuotient K set t) t u i alike (λ K x y. one_quotient K set t u x y) a b
one_query h k (Sub point set) t u i alike n a b = one_text h k (λ K t. AnswersSub K point set t) t u i alike (λ K x y. one_sub K point set t u x y) a b
one_query h k (Close string) t u i alike n a b = one_configured h k (λ K t. AnswersClose K string t) t u i alike (λ K is x y. one_close K is string t u x y) a b
one_query h k Good t u i alike n a b = one_text h k (λ K t. ListsGood K t) t u i alike (λ K x y. one_good K t u x y) a b
one_query h k (Mergings most after) t u i alike n a b = one_text h k (λ K t. AnswersMergings K most after t) t u i alike (λ K x y. one_mergings K most after t u x y) a b
one_query h k (Write form set) t u i alike n a b = one_text h k (λ K t. WritesGraph K form set t) t u i alike (λ K x y. one_graph K form set t u x y) a b
one_query h k (Trace version) t u i alike n a b =
    let same = one_configuration h k a.configuration b.configuration i alike a.closure b.closure in
    one_trace h k version a.configuration t u i alike (λ e. n (ap Trace e)) a.holds (subst (λ (K : PairColouring). TellsTrace version k K u) same b.holds)
one_query h k act t u i alike n a b = absurd a

-- two answers of a query agree
queries_agree : (h k : History) (act : Act) (t u : List ℕ) → IsHistory h → AreAlike h k → Tells h act t → Tells k act u → Agree act t u
queries_agree h k act t u i alike a b = record {
  same = λ n. one_query h k act t u i alike n a b;
  traces = λ e. traces_agree h k t u i alike (subst (λ (x : Act). Tells h x t) e a) (subst (λ (x : Act). Tells k x u) e b);
}

-- ---- one answer of an edit, an undo or a redo

one_accepted : (h k : History) (t u : List ℕ) → IsHistory h → AreAlike h k → IsAccepted h t → IsAccepted k u → t ≡ u
one_accepted h k t u i alike a b = one_text h k (λ K t. t ≡ ok_text K.size (rank_of K)) t u i alike (λ K x y. x ∙ sym y) a b

one_refusal : (h k : History) (move : steps.Move) (fault other : EditFault) → IsHistory h → IsHistory k → AreAlike h k
    → steps.IsRefused h move fault → steps.IsRefused k move other → fault ≡ other
one_refusal h k move fault other i j alike a b = refusal_is_unique k move fault other j (refusal_is_alike h k move fault i alike a) b

-- one side is accepted and the other refused
not_refused : (h k : History) (move : steps.Move) (next : History) (fault : EditFault) → IsHistory h → IsHistory k → AreAlike h k
    → steps.IsRefused h move fault → steps.Accepts k move next → ⊥
not_refused h k move next fault i j alike r a = not_both k move next fault j a (refusal_is_alike h k move fault i alike r)

alike_back : (h k : History) → AreAlike h k → AreAlike k h
alike_back h k alike = record { position = sym alike.position; colourings = sym alike.colourings; chains = sym alike.chains }

one_move : (h k : History) (move : steps.Move) (next other : History) (t u : List ℕ) → IsHistory h → IsHistory k → AreAlike h k → IsHistory next
    → Moves h move next t → Moves k move other u → AreAlike next other × (t ≡ u)
one_move h k move next other t u i j alike keeps a b =
    ⊎_elim
    (λ x. ⊎_elim
    (λ y. let same = step_is_unique h k move next other i j alike (inl x.0) (inl y.0) in (same, one_accepted next other t u keeps same x.1 y.1))
    (λ y. absurd (not_refused k h move next y.0 j i (alike_back h k alike) y.1 x.0)) b)
    (λ x. ⊎_elim
    (λ y. absurd (not_refused h k move other x.0 i j alike x.1 y.0))
    (λ y. (
      subst (λ (e : History). AreAlike next e) (sym y.2) (subst (λ (e : History). AreAlike e k) (sym x.2) alike),
      x.3 ∙ ap (λ (f : EditFault). refused_text_of (edit_word f)) (one_refusal h k move x.0 y.0 i j alike x.1 y.1) ∙ sym y.3,
    )) b)
    a

-- ---- outputs that agree

-- an edit, an undo or a redo is no trace
moves_agree : (products : List PairColouring) (act : Act) (move : steps.Move) (t u : List ℕ) → move_of products act ≡ Some move → t ≡ u → Agree act t u
moves_agree products act move t u is same = record {
  same = λ _. same;
  traces = λ e. absurd (none-some move (sym (ap (move_of products) e) ∙ is));
}

answers_agree : (h k : History) (products : List PairColouring) (act : Act) (next other : History) (t u : List ℕ) → IsHistory h → IsHistory k → AreAlike h k → IsHistory next
    → Answers h products act next t → Answers k products act other u → AreAlike next other × Agree act t u
answers_agree h k products act next other t u i j alike keeps a b =
    elim (move_of products act) as (λ m. move_of products act ≡ m → MatchOption m ((next ≡ h) × Tells h act t) (λ move. Moves h move next t) → MatchOption m ((other ≡ k) × Tells k act u) (λ move. Moves k move other u)
    → AreAlike next other × Agree act t u) [
      | None ↦ λ is x y. (
        subst (λ (e : History). AreAlike next e) (sym y.0) (subst (λ (e : History). AreAlike e k) (sym x.0) alike),
        queries_agree h k act t u i alike x.1 y.1,
      )
      | Some move ↦ λ is x y. let same = one_move h k move next other t u i j alike keeps x y in (same.0, moves_agree products act move t u is same.1)
    ] refl a b

pub runs_agree : RunsAgree
runs_agree h k end other products [] t u i j alike a b =
    (subst (λ (e : History). AreAlike end e) (sym b.0) (subst (λ (e : History). AreAlike e k) (sym a.0) alike), (a.1, b.1))
runs_agree h k end other products (line ∷ lines) t u i j alike (next, first, rest, answers, run, is) (next2, first2, rest2, answers2, run2, is2) =
    let i2 = answer_keeps h products line.act next first i answers in
    let j2 = answer_keeps k products line.act next2 first2 j answers2 in
    let same = answers_agree h k products line.act next next2 first first2 i j alike i2 answers answers2 in
    let rests = runs_agree next next2 end other (left_by products line.act) lines rest rest2 i2 j2 same.0 run run2 in
    (rests.0, (first, first2, rest, rest2, same.1, rests.1, is, is2))

pub outputs_agree : OutputsAgree
outputs_agree C products lines t u raw a b =
    (runs_agree a.0 b.0 a.2 b.2 products lines t u (start_is_history C a.0 raw a.1) (start_is_history C b.0 raw b.1) (start_is_unique C a.0 b.0 a.1 b.1) a.3 b.3).1

-- ---- one output

HasNoTrace-tail : (line : Line) (lines : List Line) → HasNoTrace (line ∷ lines) → HasNoTrace lines
HasNoTrace-tail line lines n = λ k d l. n (suc k) d (omega (arith, l))

-- texts that agree line by line are equal, where no line asks for a trace of version 1
one_from_agreement : (lines : List Line) (t u : List ℕ) → HasNoTrace lines → AgreeLineByLine lines t u → t ≡ u
one_from_agreement [] t u n a = a.0 ∙ sym a.1
one_from_agreement (line ∷ lines) t u n (first, other, rest, others, agree, rests, is, is2) =
    is ∙ ap (λ (l : List ℕ). l ++ rest) (agree.same (n 0 line (omega arith)))
    ∙ ap (λ (l : List ℕ). other ++ l) (one_from_agreement lines rest others (HasNoTrace-tail line lines n) rests) ∙ sym is2

pub run_is_unique : RunIsUnique
run_is_unique h k end other products lines t u i j alike n a b =
    let agree = runs_agree h k end other products lines t u i j alike a b in (agree.0, one_from_agreement lines t u n agree.1)

pub output_is_unique : OutputIsUnique
output_is_unique C products lines t u raw n a b = one_from_agreement lines t u n (outputs_agree C products lines t u raw a b)
