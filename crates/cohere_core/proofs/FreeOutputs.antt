-- The output of the tasks for which no file is loaded: a demonstration and a table.
use Rattle.std.proofs.Common.{◌≡◌, ℕ, List, [], Option, refl, inl}
use Rattle.scheme_io.specs.Files.{Files}
use Rattle.array_tables.specs.Parameters.{array_of}
use Rattle.neighbour_answers.specs.TableAnswer.{table_answer_of}
use Rattle.cohere_inputs.specs.Bad.{NoneIsBad}
use Rattle.cohere_inputs.specs.Task.{Demo, Table, TableWords}
use Rattle.cohere_core.specs.declared.answering.SessionFault.{SessionFault}
use Rattle.cohere_core.specs.declared.status.Status.TheVariants.{Done}
use Rattle.cohere_core.specs.Added.{AddsText, AddsUntil}
use Rattle.cohere_core.specs.DemoForm.{DemoOutput}
use Rattle.cohere_core.specs.Forms.{IsSomeOutputOf}
use Rattle.cohere_core.proofs.Endings.{HasFront, HasWhole}
use Rattle.cohere_core.proofs.Fronts.{until_other}

-- no file is loaded, and so none is bad
table_is_good : (given : Files) (words : TableWords) → NoneIsBad given (Table words)
table_is_good given words = record { needs = []; loaded = refl; good = tt }

pub table_whole : (given : Files) (words : TableWords) (old new : Option (List ℕ)) → AddsText (λ t. t ≡ table_answer_of (array_of words.b words.c)) old new
    → HasWhole given (Table words) Done old new
table_whole given words old new added = record { good = table_is_good given words; added = added; is = refl }

pub table_front : (given : Files) (words : TableWords) (fault : SessionFault) (old new : Option (List ℕ))
    → AddsUntil fault (λ t. t ≡ table_answer_of (array_of words.b words.c)) old new → HasFront given (Table words) fault old new
table_front given words fault old new front =
    record { good = table_is_good given words; added = until_other fault _ (IsSomeOutputOf given (Table words)) old new (λ t is. inl is) front }

demo_is_good : (given : Files) (number : ℕ) → NoneIsBad given (Demo number)
demo_is_good given number = record { needs = []; loaded = refl; good = tt }

pub demo_whole : (given : Files) (number : ℕ) (old new : Option (List ℕ)) → AddsText (DemoOutput number) old new → HasWhole given (Demo number) Done old new
demo_whole given number old new added = record { good = demo_is_good given number; added = added; is = refl }

pub demo_front : (given : Files) (number : ℕ) (fault : SessionFault) (old new : Option (List ℕ)) → AddsUntil fault (DemoOutput number) old new → HasFront given (Demo number) fault old new
demo_front given number fault old new front =
    record { good = demo_is_good given number; added = until_other fault (DemoOutput number) (IsSomeOutputOf given (Demo number)) old new (λ t is. inl is) front }
