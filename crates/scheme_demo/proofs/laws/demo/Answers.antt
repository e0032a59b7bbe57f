use Rattle.scheme_demo.proofs.LawProofs.{demo_relation_is_raw, demo_lines_are_script}
use Rattle.scheme_demo.proofs.laws.demo.Goals as goal

pub returns-clause-relation : goal.returns-clause-relation
returns-clause-relation c = demo_relation_is_raw

pub returns-clause-lines : goal.returns-clause-lines
returns-clause-lines c = demo_lines_are_script
