-- The output of a demonstration.
use Rattle.std.proofs.Common.{◌≡◌, ◌+◌, ℕ, List, [], ◌++◌, length, take, Option, refl, sym, ap, subst, ◌∙◌, arith, append_assoc, length-append}
use Rattle.std.specs.Prelude.{◌≢◌}
use Rattle.std.specs.Io.KnownBytes.{Appends}
use Rattle.std.proofs.KnownBytes.{Appends-trans}
use Rattle.std.proofs.lemmas.List.{take-append-le, length-map}
use Rattle.std.proofs.lemmas.List.Elements.{All-nil, All-from_recursion}
use Rattle.std.proofs.Math.Seq.{take-append-add, take-append_seam}
use Rattle.scheme_io.specs.Bytes.{AppendsPart}
use Rattle.pair_colours.specs.Colouring.{PairColouring, IsRawColouring}
use Rattle.pair_colours.specs.Naming.{rank_of}
use Rattle.script_text.specs.declared.acts.Act.TheVariants.{Trace}
use Rattle.script_text.specs.declared.acts.Line.{Line}
use Rattle.script_text.specs.Script.{KeepsLimit}
use Rattle.recolour_bench.specs.History.{History, IsHistory, AreAlike, Starts, present_chain}
use Rattle.recolour_bench.proofs.LawProofs.{start_exists, start_is_history, start_is_unique, chain_is_unique}
use Rattle.scheme_demo.specs.Demonstration.{demo_size, demo_relation_of, demo_lines_of}
use Rattle.scheme_demo.proofs.LawProofs.{demo_relation_is_raw}
use Rattle.cohere_core.specs.declared.answering.SessionFault.{SessionFault}
use Rattle.cohere_core.specs.Answer.{Answered, KeepLimits, OfConfiguration, Runs, Stopped}
use Rattle.cohere_core.specs.declared.answering.SessionFault.TheVariants.{SinkFailed, NoMemory}
use Rattle.cohere_core.specs.Added.{AddsText, AddsUntil}
use Rattle.cohere_core.specs.DemoForm.{DemoOutput, TellsChecked, checked_line, demo_line}
use Rattle.cohere_core.specs.Law.{DemoExists, DemoIsUnique, HasNoTrace}
use Rattle.cohere_core.specs.Products.{AreProducts}
use Rattle.cohere_core.proofs.Fronts.{nothing_until}
use Rattle.cohere_core.proofs.OneOutput.{one_text, run_is_unique}
use Rattle.cohere_core.proofs.Runs.{front_of_run, has_configuration, run_exists, runs_keep}

-- ---- the lines

-- they keep the limits, take no product, and ask for no trace of version 1
pub demo_lines_keep : KeepLimits demo_lines_of
demo_lines_keep = All-from_recursion (λ (line : Line). KeepsLimit line.act) demo_lines_of (tt, (tt, (tt, (tt, (tt, (tt, (tt, tt)))))))

pub demo_products : AreProducts [] demo_lines_of
demo_products = record { one_each = refl; raw = All-nil IsRawColouring }

demo_has_no_trace : HasNoTrace demo_lines_of
demo_has_no_trace =
    All-from_recursion (λ (line : Line). line.act ≢ Trace 1) demo_lines_of
    (λ e. cc, (λ e. cc, (λ e. cc, (λ e. cc, (λ e. cc, (λ e. cc, (λ e. cc, tt)))))))

-- ---- one output

-- every entry has a last line
has_last : (h : History) → IsHistory h → (t : List ℕ) × TellsChecked h t
has_last h i =
    has_configuration h i (λ K t. t ≡ checked_line K.size (rank_of K) (length (present_chain h))) (λ K _ _. (checked_line K.size (rank_of K) (length (present_chain h)), refl))

start_history : (number : ℕ) (start : History) → Starts (demo_relation_of number) start → IsHistory start
start_history number start starts = start_is_history (demo_relation_of number) start (demo_relation_is_raw number) starts

-- a run over the relation and a last line make an output
pub output_of : (number : ℕ) (start end : History) (answers last : List ℕ) → Starts (demo_relation_of number) start → Runs start [] demo_lines_of end answers → TellsChecked end last
    → DemoOutput number (demo_line number (demo_size number) ++ answers ++ last)
output_of number start end answers last starts runs checked =
    record { start = start; starts = starts; end = end; answers = answers; runs = runs; last = last; checked = checked; text = refl }

-- and every run has a last line
run_output : (number : ℕ) (start end : History) (answers : List ℕ) → Starts (demo_relation_of number) start → Runs start [] demo_lines_of end answers
    → (last : List ℕ) × DemoOutput number (demo_line number (demo_size number) ++ answers ++ last)
run_output number start end answers starts runs =
    let last = has_last end (runs_keep demo_lines_of [] start end answers (start_history number start starts) runs) in
    (last.0, output_of number start end answers last.0 starts runs last.1)

pub demo_exists : DemoExists
demo_exists number =
    let start = start_exists (demo_relation_of number) (demo_relation_is_raw number) in
    let run = run_exists start.0 [] demo_lines_of (start_history number start.0 start.1) demo_products in
    let output = run_output number start.0 run.0 run.1 start.1 run.2 in
    (demo_line number (demo_size number) ++ run.1 ++ output.0, output.1)

one_last : (h k : History) (t u : List ℕ) → IsHistory h → AreAlike h k → TellsChecked h t → TellsChecked k u → t ≡ u
one_last h k t u i alike a b =
    let same : length (present_chain k) ≡ length (present_chain h) =
    sym (length-map (present_chain k) (λ stage. stage.colours)) ∙ ap length (sym (chain_is_unique h k i alike)) ∙ length-map (present_chain h) (λ stage. stage.colours) in
    one_text h k (λ K t. t ≡ checked_line K.size (rank_of K) (length (present_chain h))) t u i alike (λ K x y. x ∙ sym y) a
    (subst (λ (n : ℕ). OfConfiguration k (λ K. u ≡ checked_line K.size (rank_of K) n)) same b)

pub demo_is_unique : DemoIsUnique
demo_is_unique number t u a b =
    let i = start_history number a.start a.starts in
    let j = start_history number b.start b.starts in
    let alike = start_is_unique (demo_relation_of number) a.start b.start a.starts b.starts in
    let one = run_is_unique a.start b.start a.end b.end [] demo_lines_of a.answers b.answers i j alike demo_has_no_trace a.runs b.runs in
    let k = runs_keep demo_lines_of [] a.start a.end a.answers i a.runs in
    let last = one_last a.end b.end a.last b.last k one.0 a.checked b.checked in
    a.text ∙ ap (λ (s : List ℕ). demo_line number (demo_size number) ++ s ++ a.last) one.1 ∙ ap (λ (s : List ℕ). demo_line number (demo_size number) ++ b.answers ++ s) last ∙ sym b.text

-- ---- what was added

-- the relation of a number has its points
demo_points : (number : ℕ) → (demo_relation_of number).size ≡ demo_size number
unfolding demo_relation_of
demo_points number = refl

-- the first line, of the points of the relation
pub first_line_is : (number points : ℕ) (relation : PairColouring) (view head : List ℕ) → relation ≡ demo_relation_of number → points ≡ relation.size → head ≡ demo_line number points
    → view ≡ head → view ≡ demo_line number (demo_size number)
first_line_is number points relation view head made size is same =
    same ∙ is ∙ ap (demo_line number) (size ∙ ap (λ (C : PairColouring). C.size) made ∙ demo_points number)

-- the first line was added, and the history starts with the relation
pub record IsBegun (number : ℕ) (start : History) (old new : Option (List ℕ)) : Type 0 where
  pub starts : Starts (demo_relation_of number) start
  pub added : Appends old new (demo_line number (demo_size number))

pub is_begun : (number : ℕ) (relation : PairColouring) (start : History) (a b : Option (List ℕ)) (view : List ℕ) → relation ≡ demo_relation_of number → Starts relation start
    → view ≡ demo_line number (demo_size number) → Appends a b view → IsBegun number start a b
is_begun number relation start a b view made starts is added =
    record { starts = subst (λ (C : PairColouring). Starts C start) made starts; added = subst (Appends a b) is added }

-- before the first byte
pub nothing_of_demo : (number : ℕ) (a : Option (List ℕ)) → AddsUntil NoMemory (DemoOutput number) a a
nothing_of_demo number a = let t = demo_exists number in nothing_until (DemoOutput number) t.0 a t.1

-- in the first line
pub part_of_head : (number : ℕ) (a b : Option (List ℕ)) (view : List ℕ) → view ≡ demo_line number (demo_size number) → AppendsPart a b view
    → AddsUntil SinkFailed (DemoOutput number) a b
part_of_head number a b view is part =
    let t = demo_exists number in
    let first = demo_line number (demo_size number) in
    let e : take part.0 view ≡ take part.0 t.0 =
    ap (take part.0) is ∙ sym (take-append-le part.0 first (t.1.answers ++ t.1.last) (omega (arith, part.1, ap length is)))
    ∙ ap (take part.0) (sym (append_assoc first t.1.answers t.1.last) ∙ sym t.1.text) in
    let longer : length t.0 ≡ length first + length (t.1.answers ++ t.1.last) =
    ap length (t.1.text ∙ append_assoc first t.1.answers t.1.last) ∙ length-append first (t.1.answers ++ t.1.last) in
    record {
      text = t.0;
      count = part.0;
      is = t.1;
      proper = λ _. omega (arith, part.1, ap length is, longer);
      added = subst (Appends a b) e part.2;
    }

-- in the answers
pub part_of_answers : (number : ℕ) (fault : SessionFault) (lines : List Line) (start bench : History) (a b c : Option (List ℕ)) → lines ≡ demo_lines_of → IsBegun number start a b
    → Stopped fault start [] lines bench b c → AddsUntil fault (DemoOutput number) a c
part_of_answers number fault lines start bench a b c are begun stopped =
    let there = subst (λ (l : List Line). Stopped fault start [] l bench b c) are stopped in
    let front = front_of_run fault [] demo_lines_of start bench b c (start_history number start begun.starts) demo_products there in
    let output = run_output number start front.end front.answers begun.starts front.runs in
    let first = demo_line number (demo_size number) in
    let e : first ++ take front.part front.answers ≡ take (length first + front.part) (first ++ front.answers ++ output.0) =
    ap (λ (l : List ℕ). first ++ l) (sym (take-append-le front.part front.answers output.0 (omega (arith, front.proper))))
    ∙ sym (take-append-add first (front.answers ++ output.0) front.part) ∙ ap (take (length first + front.part)) (sym (append_assoc first front.answers output.0)) in
    record {
      text = first ++ front.answers ++ output.0;
      count = length first + front.part;
      is = output.1;
      proper = λ _. omega (arith, front.proper, length-append (first ++ front.answers) output.0, length-append first front.answers);
      added = subst (Appends a c) e (Appends-trans a b c _ _ begun.added front.added);
    }

-- the first line and the answers were added
pub record IsAnswered (number : ℕ) (end : History) (old new : Option (List ℕ)) : Type 0 where
  pub start : History
  pub starts : Starts (demo_relation_of number) start
  pub answers : List ℕ
  pub runs : Runs start [] demo_lines_of end answers
  pub added : Appends old new (demo_line number (demo_size number) ++ answers)

pub is_answered : (number : ℕ) (lines : List Line) (start end : History) (a b c : Option (List ℕ)) → lines ≡ demo_lines_of → IsBegun number start a b
    → Answered start [] lines end b c → IsAnswered number end a c
is_answered number lines start end a b c are begun answered = record {
  start = start;
  starts = begun.starts;
  answers = answered.0;
  runs = subst (λ (l : List Line). Runs start [] l end answered.0) are answered.1;
  added = Appends-trans a b c _ _ begun.added answered.2;
}

-- after the answers
pub answers_alone : (number : ℕ) (end : History) (a c : Option (List ℕ)) → IsAnswered number end a c → AddsUntil NoMemory (DemoOutput number) a c
answers_alone number end a c h =
    let output = run_output number h.start end h.answers h.starts h.runs in
    let before = demo_line number (demo_size number) ++ h.answers in
    record {
      text = before ++ output.0;
      count = length before;
      is = output.1;
      proper = λ e. absurd cc;
      added = subst (Appends a c) (sym (take-append_seam before output.0)) h.added;
    }

-- in the last line
pub part_of_last : (number : ℕ) (end : History) (a c d : Option (List ℕ)) (view last : List ℕ) → IsAnswered number end a c → TellsChecked end last → view ≡ last → AppendsPart c d view
    → AddsUntil SinkFailed (DemoOutput number) a d
part_of_last number end a c d view last h checked same part =
    let before = demo_line number (demo_size number) ++ h.answers in
    let e : before ++ take part.0 view ≡ take (length before + part.0) (before ++ last) = ap (λ (l : List ℕ). before ++ take part.0 l) same ∙ sym (take-append-add before last part.0) in
    record {
      text = before ++ last;
      count = length before + part.0;
      is = output_of number h.start end h.answers last h.starts h.runs checked;
      proper = λ _. omega (arith, part.1, ap length same, length-append before last);
      added = subst (Appends a d) e (Appends-trans a c d _ _ h.added part.2);
    }

-- the whole
pub whole_demo : (number : ℕ) (end : History) (a c d : Option (List ℕ)) (view last : List ℕ) → IsAnswered number end a c → TellsChecked end last → view ≡ last → Appends c d view
    → AddsText (DemoOutput number) a d
whole_demo number end a c d view last h checked same more = (
  demo_line number (demo_size number) ++ h.answers ++ last,
  output_of number h.start end h.answers last h.starts h.runs checked,
  Appends-trans a c d _ _ h.added (subst (Appends c d) same more),
)
