use Rattle.equitable.proofs.LawProofs.{accepted_has_few_steps, accepted_text_fits}
use Rattle.equitable.proofs.laws.sizes.Goals as goal

pub returns-clause-steps : goal.returns-clause-steps
returns-clause-steps c = accepted_has_few_steps

pub returns-clause-text : goal.returns-clause-text
returns-clause-text c = accepted_text_fits
