use Rattle.std.proofs.Common.{refl}
use Rattle.array_tables.specs.Parameters.{array_of}
use Rattle.neighbour_answers.specs.TableAnswer.{table_answer_of}
use Rattle.cohere_core.specs.declared.answering.SessionFault.TheVariants.{NoMemory}
use Rattle.cohere_core.specs.Added.{AddsUntil}
use Rattle.cohere_core.proofs.Fronts.{nothing_until}
use Rattle.cohere_core.proofs.Runs.{at_fault}
use Rattle.cohere_core.proofs.table_form.write_table.Goals as goal

pub returns-in_err-b-clause-front : goal.returns-in_err-b-clause-front
returns-in_err-b-clause-front g c =
    at_fault (λ fault. AddsUntil fault _ _ _) c.from_residual.result NoMemory c.from_residual.ensures.1 (nothing_until _ (table_answer_of (array_of c.args.words.now.b c.args.words.now.c)) _ refl)
