-- The exit status of each answer of a run.
use Rattle.std.specs.Prelude.{ℕ}
use Rattle.cohere_core.specs.declared.status.Status.{Status}
use Rattle.cohere_core.specs.declared.status.Status.TheVariants.{Done, CheckedNo, Usage, BadInput, StoreFailed, SinkFailed, NoMemory}

abbrev pub code_of : Status → ℕ
code_of Done = 0
code_of CheckedNo = 1
code_of Usage = 2
code_of BadInput = 3
code_of StoreFailed = 4
code_of SinkFailed = 5
code_of NoMemory = 6
