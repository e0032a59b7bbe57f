use Rattle.relation_text.proofs.LawProofs.{reads_or_fails, reading_has_no_fault, fault_has_no_reading, reading_is_unique}
use Rattle.relation_text.proofs.laws.l8.Goals as goal

pub returns-clause-reads_or_fails : goal.returns-clause-reads_or_fails
returns-clause-reads_or_fails c = reads_or_fails

pub returns-clause-no_fault : goal.returns-clause-no_fault
returns-clause-no_fault c = reading_has_no_fault

pub returns-clause-no_reading : goal.returns-clause-no_reading
returns-clause-no_reading c = fault_has_no_reading

pub returns-clause-unique : goal.returns-clause-unique
returns-clause-unique c = reading_is_unique
