-- The laws of this crate, for the proofs of crates above.
use Rattle.std.proofs.Common.{refl}
use Rattle.recolour_bench.specs.Law.{StartExists, StartIsHistory, StartIsUnique, StepExists, StepKeeps, StepIsUnique, NotBoth, RefusalIsUnique, RefusalIsAlike, PresentIsRaw, PresentIsUnique, ChainsAreAccepted, ChainsAreShort, ChainsAreRaw, ChainTextsFit, RoundChainsAreAccepted, ChainsFollow, ChainIsUnique, RoundChainIsUnique, FixTakesLeast, GrowthIsTested, FibresAreTested, MostPosition}
use Rattle.recolour_bench.proofs.Stepping as stepping
use Rattle.recolour_bench.proofs.Alike as alike
use Rattle.recolour_bench.proofs.Showing as showing
use Rattle.recolour_bench.proofs.EditTests as tests
use Rattle.recolour_bench.proofs.Unused.{IsLeastUnused-least_unused}

pub start_exists : StartExists
start_exists = stepping.start_exists

pub start_is_history : StartIsHistory
start_is_history = stepping.start_is_history

pub start_is_unique : StartIsUnique
start_is_unique = alike.start_is_unique

pub step_exists : StepExists
step_exists = stepping.step_exists

pub step_keeps : StepKeeps
step_keeps = stepping.step_keeps

pub step_is_unique : StepIsUnique
step_is_unique = alike.step_is_unique

pub not_both : NotBoth
not_both = alike.not_both

pub refusal_is_unique : RefusalIsUnique
refusal_is_unique = alike.refusal_is_unique

pub refusal_is_alike : RefusalIsAlike
refusal_is_alike = alike.refusal_is_alike

pub present_is_raw : PresentIsRaw
present_is_raw = stepping.present_is_raw

pub present_is_unique : PresentIsUnique
present_is_unique = alike.present_is_unique

pub chains_are_accepted : ChainsAreAccepted
chains_are_accepted = showing.chains_are_accepted

pub chains_are_short : ChainsAreShort
chains_are_short = showing.chains_are_short

pub chains_are_raw : ChainsAreRaw
chains_are_raw = showing.chains_are_raw

pub chain_texts_fit : ChainTextsFit
chain_texts_fit = showing.chain_texts_fit

pub round_chains_are_accepted : RoundChainsAreAccepted
round_chains_are_accepted = showing.round_chains_are_accepted

pub chains_follow : ChainsFollow
chains_follow = showing.chains_follow

pub chain_is_unique : ChainIsUnique
chain_is_unique = alike.chain_is_unique

pub round_chain_is_unique : RoundChainIsUnique
round_chain_is_unique = showing.round_chain_is_unique

pub fix_takes_least : FixTakesLeast
fix_takes_least C is = IsLeastUnused-least_unused C is.fits.colouring

pub growth_is_tested : GrowthIsTested
growth_is_tested = tests.growth_is_tested

pub fibres_are_tested : FibresAreTested
fibres_are_tested = tests.fibres_are_tested

pub most_position : MostPosition
most_position = refl
