use Rattle.trace_text.proofs.LawProofs.{trace_reads_or_fails, reading_has_no_fault, reading_is_unique, text_is_read_back, text_is_of_one_claim}
use Rattle.trace_text.proofs.laws.l8.Goals as goal

pub returns-clause-reads_or_fails : goal.returns-clause-reads_or_fails
returns-clause-reads_or_fails c = trace_reads_or_fails

pub returns-clause-no_fault : goal.returns-clause-no_fault
returns-clause-no_fault c = reading_has_no_fault

pub returns-clause-unique : goal.returns-clause-unique
returns-clause-unique c = reading_is_unique

pub returns-clause-read_back : goal.returns-clause-read_back
returns-clause-read_back c = text_is_read_back

pub returns-clause-one_claim : goal.returns-clause-one_claim
returns-clause-one_claim c = text_is_of_one_claim
