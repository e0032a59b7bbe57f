-- Every task has an output where no file is bad.
use Rattle.std.proofs.Common.{inl, refl}
use Rattle.array_tables.specs.Parameters.{array_of}
use Rattle.neighbour_answers.specs.TableAnswer.{table_answer_of}
use Rattle.cohere_inputs.specs.Task.{Run, Check, Demo, Ask, CheckCells, Table}
use Rattle.cohere_core.specs.Law.{TaskHasOutput}
use Rattle.cohere_core.proofs.AskOutputs.{ask_outputs}
use Rattle.cohere_core.proofs.CellsOutputs.{cells_outputs}
use Rattle.cohere_core.proofs.CheckOutputs.{check_outputs}
use Rattle.cohere_core.proofs.DemoOutputs.{demo_exists}
use Rattle.cohere_core.proofs.RunOutputs.{run_outputs}

pub task_has_output : TaskHasOutput
task_has_output (Run run) files none = run_outputs run files none
task_has_output (Check trace) files none = check_outputs trace files none
task_has_output (Demo number) files none = let t = demo_exists number in (t.0, inl t.1)
task_has_output (Ask words) files none = ask_outputs words files none
task_has_output (CheckCells trace) files none = cells_outputs trace files none
task_has_output (Table words) files none = (table_answer_of (array_of words.b words.c), inl refl)
