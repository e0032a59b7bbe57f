-- The task as the code has it.
use Rattle.cohere_inputs.specs.declared.ask_forms.AskWords as code_ask
use Rattle.cohere_inputs.specs.declared.ask_forms.Question as code_question
use Rattle.cohere_inputs.specs.declared.ask_forms.Question.TheVariants as questions
use Rattle.cohere_inputs.specs.declared.run_form.RunWords as code_run
use Rattle.cohere_inputs.specs.declared.table_form.TableWords as code_table
use Rattle.cohere_inputs.specs.declared.words.Task as code
use Rattle.cohere_inputs.specs.declared.words.Task.TheVariants as forms
use Rattle.cohere_inputs.specs.Task.{Task, Run, Check, Demo, Ask, CheckCells, Table, RunWords, AskWords, TableWords, Question, Ring, Cells, Lattice, Common}

-- what the words of each form are
abbrev pub asked_run : code_run.RunWords → RunWords
asked_run words = record { relation = words.relation.now; script = words.script.now; line = words.line }

abbrev pub asked_question : code_question.Question → Question
asked_question (questions.Ring colours) = Ring colours
asked_question (questions.Cells colours) = Cells colours
asked_question questions.Lattice = Lattice
asked_question (questions.Common i j) = Common i j

abbrev pub asked_ask : code_ask.AskWords → AskWords
asked_ask words = record { relation = words.relation.now; question = asked_question words.question }

abbrev pub asked_table : code_table.TableWords → TableWords
asked_table words = record { b = words.b; c = words.c }

abbrev pub asked : code.Task → Task
asked (forms.Run words) = Run (asked_run words)
asked (forms.Check trace) = Check trace.now
asked (forms.Demo number) = Demo number
asked (forms.Ask words) = Ask (asked_ask words)
asked (forms.CheckCells trace) = CheckCells trace.now
asked (forms.Table words) = Table (asked_table words)
