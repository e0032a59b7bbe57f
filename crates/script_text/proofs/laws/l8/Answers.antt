use Rattle.script_text.proofs.LawProofs.{script_is_unique, script_or_fault, script_has_no_fault, fault_has_no_script}
use Rattle.script_text.proofs.laws.l8.Goals as goal

pub returns-clause-unique : goal.returns-clause-unique
returns-clause-unique c = script_is_unique

pub returns-clause-script_or_fault : goal.returns-clause-script_or_fault
returns-clause-script_or_fault c = script_or_fault

pub returns-clause-no_fault : goal.returns-clause-no_fault
returns-clause-no_fault c = script_has_no_fault

pub returns-clause-no_script : goal.returns-clause-no_script
returns-clause-no_script c = fault_has_no_script
