use Rattle.trace_check.proofs.Coherence.{none_found}
use Rattle.trace_check.proofs.ending.is_coherent.Goals as goal

pub returns : goal.returns
returns c =
    none_found c.args.cells.now c.in_ok-fault.fault c.is_none.result c.first_fault.ensures.within c.in_ok-fault.ensures.fault c.in_ok-fault.ensures.coherent
    c.is_none.ensures
