-- The output of a question about a relation.
use Rattle.std.proofs.Common.{ℕ, List, Option, Some, None, refl, subst, inl}
use Rattle.std.specs.Prelude.{IfSome}
use Rattle.std.specs.List.{AllByRecursion}
use Rattle.scheme_io.specs.Files.{Files}
use Rattle.pair_colours.specs.Closure.{IsClosureOf}
use Rattle.pair_colours.specs.Colouring.{PairColouring, IsRawColouring}
use Rattle.pair_colours.proofs.LawProofs.{named_closure_exists}
use Rattle.struct_consts.specs.ClassData.{IsConfiguration}
use Rattle.relation_text.proofs.LawProofs.{reading_is_raw}
use Rattle.neighbour_answers.specs.LatticeAnswer.{AnswersCommon, AnswersLattice}
use Rattle.neighbour_answers.proofs.LatticeProofs.{common_answers_are_unique, lattice_answers_are_unique}
use Rattle.neighbour_answers.proofs.LawProofs.{cells_answer_exists, ring_answer_exists}
use Rattle.cohere_inputs.specs.Needs.{Need, named_files}
use Rattle.cohere_inputs.specs.Bad.{IsGood, IsRelationFile, NoneIsBad}
use Rattle.cohere_inputs.specs.Task.{Ask, AskWords, Question, Ring, Cells, Lattice, Common}
use Rattle.cohere_core.specs.declared.answering.SessionFault.{SessionFault}
use Rattle.cohere_core.specs.declared.status.Status.TheVariants.{Done}
use Rattle.cohere_core.specs.Added.{AddsText, AddsUntil}
use Rattle.cohere_core.specs.AskForms.{AnswersQuestion, OfClosure}
use Rattle.cohere_core.specs.Forms.{IsSomeOutputOf}
use Rattle.cohere_core.proofs.Endings.{HasFront, HasOutputs, HasWhole}
use Rattle.cohere_core.proofs.Fronts.{until_other}

-- ---- the file

good_relation : (files : Files) (words : AskWords) (C : PairColouring) → IsRelationFile files words.relation 1 C → NoneIsBad files (Ask words)
good_relation files words C file =
    record { needs = named_files (Ask words); loaded = refl; good = (record { bytes = file.bytes; file = file.file; text = (C, file.reads) }, tt) }

has_relation : (files : Files) (words : AskWords) → NoneIsBad files (Ask words) → (C : PairColouring) × IsRelationFile files words.relation 1 C
has_relation files words none =
    let good = subst (λ (needs : List Need). AllByRecursion (IsGood files) needs) none.loaded none.good in
    (good.0.text.0, record { bytes = good.0.bytes; file = good.0.file; reads = good.0.text.1 })

-- ---- the answer

-- what is asked of the closure has an answer
of_closure : (C : PairColouring) (P : PairColouring → List ℕ → Type 0) → IsRawColouring C → ((K : PairColouring) → IsClosureOf K C → (t : List ℕ) × P K t)
    → (t : List ℕ) × OfClosure C (λ K. P K t)
of_closure C P raw text =
    let K = named_closure_exists C raw.fits.colouring in
    let t = text K.0 K.1 in
    (t.0, (K.0, K.1, t.1))

-- the closure is a configuration
closed_configuration : (C K : PairColouring) → IsClosureOf K C → IsConfiguration K
closed_configuration C K is = record { colouring = is.closure.colouring; coherent = is.closure.coherent; named = is.named }

-- each question has one
pub has_answer_to : (C : PairColouring) (question : Question) → IsRawColouring C → (t : List ℕ) × AnswersQuestion C question t
has_answer_to C (Ring colours) raw = ring_answer_exists C colours raw.fits.colouring
has_answer_to C (Cells colours) raw = cells_answer_exists C colours raw.fits
has_answer_to C Lattice raw = of_closure C AnswersLattice raw (λ K is. lattice_answers_are_unique.exists K)
has_answer_to C (Common i j) raw = of_closure C (λ K t. AnswersCommon K i j t) raw (λ K is. common_answers_are_unique.exists K (closed_configuration C K is) i j)

-- ---- the output

pub ask_outputs : (words : AskWords) → HasOutputs (Ask words)
ask_outputs words given none =
    let C = has_relation given words none in
    let t = has_answer_to C.0 words.question (reading_is_raw C.1.bytes 1 C.0 C.1.reads) in
    (t.0, inl (record { relation = C.0; file = C.1; answers = t.1 }))

pub ask_whole : (files : Option Files) (words : AskWords) (C : PairColouring) (old new : Option (List ℕ)) → IfSome files (λ files. IsRelationFile files words.relation 1 C)
    → AddsText (AnswersQuestion C words.question) old new → IfSome files (λ given. HasWhole given (Ask words) Done old new)
ask_whole None words C old new file added = tt
ask_whole (Some files) words C old new file added = record {
  good = good_relation files words C file;
  added = (added.0, record { relation = C; file = file; answers = added.1 }, added.2);
  is = refl;
}

pub ask_front : (files : Option Files) (words : AskWords) (C : PairColouring) (fault : SessionFault) (old new : Option (List ℕ))
    → IfSome files (λ files. IsRelationFile files words.relation 1 C) → AddsUntil fault (AnswersQuestion C words.question) old new
    → IfSome files (λ given. HasFront given (Ask words) fault old new)
ask_front None words C fault old new file front = tt
ask_front (Some files) words C fault old new file front = record {
  good = good_relation files words C file;
  added = until_other fault (AnswersQuestion C words.question) (IsSomeOutputOf files (Ask words)) old new (λ t answers. inl (record { relation = C; file = file; answers = answers })) front;
}
