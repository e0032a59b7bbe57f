mod Leading
mod Reached
mod Forced
mod MadeRounds
mod RoundedStages
