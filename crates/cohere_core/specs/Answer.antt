-- The answers of a script, line by line.
use Rattle.std.specs.Prelude.{◌≡◌, ◌≢◌, ◌⊎◌, ◌<◌, ◌++◌, ℕ, List, [], ◌∷◌, All, length, take, slice_get, Option, Some, None, option_map, MatchOption, codes, ⊤}
use Rattle.std.specs.Io.KnownBytes.{Appends}
use Rattle.pair_colours.specs.Colouring.{PairColouring}
use Rattle.pair_colours.specs.Closure.{IsClosureOf}
use Rattle.pair_colours.specs.Naming.{rank_of}
use Rattle.recolour_bench.specs.EntryChains.{claim_by, round_claim_by}
use Rattle.recolour_bench.specs.History.{History, present, present_chain}
use Rattle.recolour_bench.specs.declared.edits.EditFault.{EditFault}
use Rattle.recolour_bench.specs.Edits as edits
use Rattle.recolour_bench.specs.Steps as steps
use Rattle.recolour_bench.specs.Words.{edit_word}
use Rattle.report_text.specs.EditLines.{ok_text, refused_text_of}
use Rattle.report_text.specs.Matrices.{show_text, raw_text}
use Rattle.report_text.specs.Classes.{classes_text_of}
use Rattle.report_text.specs.Constants.{constants_text_of}
use Rattle.report_text.specs.Tests.{tests_text_of}
use Rattle.report_text.specs.Arrays.{array_text_of}
use Rattle.trace_text.specs.declared.stage_list.Stage.{Stage}
use Rattle.trace_text.specs.RoundChains.{IsRoundChain}
use Rattle.trace_text.specs.TraceText.{trace_text}
use Rattle.scheme_tests.specs.declared.properties.SchemeTests.{SchemeTests}
use Rattle.scheme_tests.specs.Law.{AreAnswers}
use Rattle.drg_arrays.specs.declared.answer.ArrayAnswer.{ArrayAnswer}
use Rattle.drg_arrays.specs.Graph.{IsGraphSet}
use Rattle.drg_arrays.specs.Answer.{IsArrayAnswer}
use Rattle.script_text.specs.declared.acts.Act.{Act}
use Rattle.script_text.specs.declared.acts.Act.TheVariants.{Set, Both, Fix, Join, Adopt, Fuse, Direct, Wreath, Undo, Redo, Show, Raw, Classes, Constants, Tests, Array, Closed, Quotient, Sub, Close, Good, Mergings, Trace, Write}
use Rattle.script_text.specs.declared.acts.Line.{Line}
use Rattle.script_text.specs.Script.{KeepsLimit}
use Rattle.script_text.specs.declared.acts.GraphForm.{GraphForm}
use Rattle.script_text.specs.declared.acts.GraphForm.TheVariants.{Graph6, Digraph6}
use Rattle.pair_colours.specs.ColourSets.{IsColourSet, IsEdgeSet}
use Rattle.relation_text.specs.Written.{graph6_of, digraph6_of}
use Rattle.report_text.specs.Graphs.{graph_line}
use Rattle.report_text.specs.declared.graphs.GraphNote.TheVariants as notes
use Rattle.cohere_core.specs.ClosedSubsets.{ListsClosed, AnswersQuotient, AnswersSub}
use Rattle.cohere_core.specs.Fusions.{AnswersClose, ListsGood, AnswersMergings}
use Rattle.cohere_core.specs.Products.{left_by, left_after}
use Rattle.cohere_core.specs.declared.answering.SessionFault.{SessionFault}
use Rattle.cohere_core.specs.declared.answering.SessionFault.TheVariants.{SinkFailed, NoMemory}

-- it holds of the configuration of the history: the closure of the present colouring
pub record OfConfiguration (h : History) (P : PairColouring → Type 0) : Type 0 where
  pub configuration : PairColouring
  pub closure : IsClosureOf configuration (present h)
  pub holds : P configuration

-- t is the answer of an edit, an undo or a redo that was accepted and led to h
abbrev pub IsAccepted : History → List ℕ → Type 0
IsAccepted h t = OfConfiguration h (λ K. t ≡ ok_text K.size (rank_of K))

-- t answers an edit, an undo or a redo at h, which leads to next: it was accepted, or it was refused and has changed nothing
abbrev pub Moves : History → steps.Move → History → List ℕ → Type 0
Moves h move next t =
    (steps.Accepts h move next × IsAccepted next t)
    ⊎ ((fault : EditFault) × steps.IsRefused h move fault × (next ≡ h) × (t ≡ refused_text_of (edit_word fault)))

-- the edit, undo or redo that an act asks for; one with `direct` or `wreath` takes the first of the products
abbrev pub move_of : List PairColouring → Act → Option steps.Move
move_of products (Set x y colour) = Some (steps.edits (edits.Set x y colour))
move_of products (Both x y colour) = Some (steps.edits (edits.Both x y colour))
move_of products (Fix x) = Some (steps.edits (edits.Fix x))
move_of products (Join keep gone) = Some (steps.edits (edits.Join keep gone))
move_of products Adopt = Some (steps.edits edits.Adopt)
move_of products (Fuse string) = Some (steps.edits (edits.Fuse string))
move_of products (Direct file) = option_map (λ other. steps.edits (edits.Direct other)) (slice_get products 0)
move_of products (Wreath file) = option_map (λ other. steps.edits (edits.Wreath other)) (slice_get products 0)
move_of products Undo = Some steps.undoes
move_of products Redo = Some steps.redoes
move_of products _ = None

-- t judges the graph of a set of classes of K: its intersection array, or why it has none; or the set chooses no graph
abbrev pub AnswersArray : PairColouring → List ℕ → List ℕ → Type 0
AnswersArray K set t =
    (¬ IsGraphSet K set × (t ≡ refused_text_of (codes "BadSet")))
    ⊎ (IsGraphSet K set × ((answer : ArrayAnswer) × IsArrayAnswer K set answer × (t ≡ array_text_of answer)))

-- t is the text of the graph of a set of classes of K in the format, or the set chooses no graph
abbrev pub WritesGraph : PairColouring → GraphForm → List ℕ → List ℕ → Type 0
WritesGraph K Graph6 set t =
    (¬ IsEdgeSet K set × (t ≡ refused_text_of (codes "BadSet")))
    ⊎ (IsEdgeSet K set × (t ≡ graph_line notes.Graph6 (graph6_of K set)))
WritesGraph K Digraph6 set t =
    (¬ IsColourSet K set × (t ≡ refused_text_of (codes "BadSet")))
    ⊎ (IsColourSet K set × (t ≡ graph_line notes.Digraph6 (digraph6_of K set)))

-- t is a trace of the closure K of the present colouring: in version 1 the text of the claim by the chain of the present entry;
-- in the other, which is 2, that of the claim by its chain of rounds
pub record TellsTrace (version : ℕ) (h : History) (K : PairColouring) (t : List ℕ) : Type 0 where
  pub first : version ≡ 1 → t ≡ trace_text (claim_by (present_chain h) K)
  pub second : version ≢ 1 → (rounds : List Stage) × IsRoundChain (present_chain h) rounds × (t ≡ trace_text (round_claim_by rounds K))

-- t answers a query at h; all queries but `raw` speak of the configuration
abbrev pub Tells : History → Act → List ℕ → Type 0
Tells h Show t = OfConfiguration h (λ K. t ≡ show_text K)
Tells h Raw t = t ≡ raw_text (present h)
Tells h Classes t = OfConfiguration h (λ K. t ≡ classes_text_of K)
Tells h Constants t = OfConfiguration h (λ K. t ≡ constants_text_of K)
Tells h Tests t = OfConfiguration h (λ K. (tests : SchemeTests) × AreAnswers K tests × (t ≡ tests_text_of tests))
Tells h (Array set) t = OfConfiguration h (λ K. AnswersArray K set t)
Tells h Closed t = OfConfiguration h (λ K. ListsClosed K t)
Tells h (Quotient set) t = OfConfiguration h (λ K. AnswersQuotient K set t)
Tells h (Sub x set) t = OfConfiguration h (λ K. AnswersSub K x set t)
Tells h (Close string) t = OfConfiguration h (λ K. AnswersClose K string t)
Tells h Good t = OfConfiguration h (λ K. ListsGood K t)
Tells h (Mergings most after) t = OfConfiguration h (λ K. AnswersMergings K most after t)
Tells h (Trace version) t = OfConfiguration h (λ K. TellsTrace version h K t)
Tells h (Write form set) t = OfConfiguration h (λ K. WritesGraph K form set t)
Tells h _ t = ⊥

-- each line keeps its limit: of the fusions that it asks for, or of the version of its trace
abbrev pub KeepLimits : List Line → Type 0
KeepLimits lines = All (λ line. KeepsLimit line.act) lines

-- t answers the act at h, where these products are left, and leads to next; a query changes nothing
abbrev pub Answers : History → List PairColouring → Act → History → List ℕ → Type 0
Answers h products act next t = MatchOption (move_of products act) ((next ≡ h) × Tells h act t) (λ move. Moves h move next t)

-- an edit takes memory; an undo and a redo take none, so that only their answers can fail
abbrev pub MoveTakesMemory : steps.Move → Type 0
MoveTakesMemory (steps.edits edit) = ⊤
MoveTakesMemory steps.undoes = ⊥
MoveTakesMemory steps.redoes = ⊥

-- only an undo and a redo are sure to take none
abbrev pub TakesMemory : Act → Type 0
TakesMemory Undo = ⊥
TakesMemory Redo = ⊥
TakesMemory _ = ⊤

-- an act that was not answered for want of memory leaves the history as the answered act would have; or, if it takes memory, as it was
abbrev pub IsHalfway : Type 0 → History → History → (List ℕ → Type 0) → Type 0
IsHalfway takes_memory old new answers = (takes_memory × (new ≡ old)) ⊎ ((t : List ℕ) × answers t)

-- the lines lead from h to end, and t is their answers, one after the other; each that takes a product takes the first of those that are left
abbrev pub Runs : History → List PairColouring → List Line → History → List ℕ → Type 0
Runs h products [] end t = (end ≡ h) × (t ≡ [])
Runs h products (line ∷ lines) end t =
    (next : History) × (first : List ℕ) × (rest : List ℕ) × Answers h products line.act next first × Runs next (left_by products line.act) lines end rest × (t ≡ first ++ rest)

-- all the lines were answered, from h to end
abbrev pub Answered : History → List PairColouring → List Line → History → Option (List ℕ) → Option (List ℕ) → Type 0
Answered h products lines end old new = (t : List ℕ) × Runs h products lines end t × Appends old new t

-- The first count lines were answered, and a proper prefix of the answer of the next one was added.
-- Where memory is wanting no byte of it was, and the bench stands before that line or after it (after it where it is an undo or a redo);
-- where the sink failed, after it.
pub record Stopped (fault : SessionFault) (h : History) (products : List PairColouring) (lines : List Line) (bench : History) (old new : Option (List ℕ)) : Type 0 where
  pub count : ℕ
  pub at : History
  pub text : List ℕ
  pub run : Runs h products (take count lines) at text
  pub line : Line
  pub is_next : slice_get lines count ≡ Some line
  pub next : History
  pub answer : List ℕ
  pub answers : Answers at (left_after products (take count lines)) line.act next answer
  pub part : ℕ
  pub proper : part < length answer
  pub added : Appends old new (text ++ take part answer)
  pub whole : fault ≡ NoMemory → part ≡ 0
  pub stands : (TakesMemory line.act × (bench ≡ at)) ⊎ (bench ≡ next)
  pub carried_out : fault ≡ SinkFailed → bench ≡ next
