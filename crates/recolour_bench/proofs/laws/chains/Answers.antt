use Rattle.recolour_bench.proofs.LawProofs.{chains_are_accepted, chains_are_short, chains_are_raw, chain_texts_fit, round_chains_are_accepted, chains_follow, chain_is_unique, round_chain_is_unique}
use Rattle.recolour_bench.proofs.laws.chains.Goals as goal

pub returns-clause-accepted : goal.returns-clause-accepted
returns-clause-accepted c = chains_are_accepted

pub returns-clause-short : goal.returns-clause-short
returns-clause-short c = chains_are_short

pub returns-clause-raw : goal.returns-clause-raw
returns-clause-raw c = chains_are_raw

pub returns-clause-texts : goal.returns-clause-texts
returns-clause-texts c = chain_texts_fit

pub returns-clause-rounds : goal.returns-clause-rounds
returns-clause-rounds c = round_chains_are_accepted

pub returns-clause-following : goal.returns-clause-following
returns-clause-following c = chains_follow

pub returns-clause-unique : goal.returns-clause-unique
returns-clause-unique c = chain_is_unique

pub returns-clause-round_chain_is_unique : goal.returns-clause-round_chain_is_unique
returns-clause-round_chain_is_unique c = round_chain_is_unique
