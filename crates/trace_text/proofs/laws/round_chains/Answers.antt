use Rattle.trace_text.proofs.LawProofs.{round_chain_exists, round_chain_is_unique, round_chain_is_of_colours, round_claim_is_accepted}
use Rattle.trace_text.proofs.laws.round_chains.Goals as goal

pub returns-clause-exists : goal.returns-clause-exists
returns-clause-exists c = round_chain_exists

pub returns-clause-unique : goal.returns-clause-unique
returns-clause-unique c = round_chain_is_unique

pub returns-clause-of_colours : goal.returns-clause-of_colours
returns-clause-of_colours c = round_chain_is_of_colours

pub returns-clause-accepted : goal.returns-clause-accepted
returns-clause-accepted c = round_claim_is_accepted
