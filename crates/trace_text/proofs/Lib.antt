pub mod LawProofs
pub mod Partitions
pub mod Parting
mod OneClass
pub mod Ranks
pub mod Splits
pub mod Leads
pub mod Reaching
pub mod Meeting
pub mod Starts
pub mod RoundSteps
pub mod Stages
pub mod RoundChains
pub mod Decided
pub mod Conditions
pub mod Verdicts
pub mod StepLoops
pub mod StageLoops
mod Worked
mod LineReadings
mod RawNumbers
mod ShownRows
mod ShownStages
mod ClaimShown
mod LineBytes
mod TraceReadings
mod WrittenLines
mod RowWords
mod StepLines
mod MatrixRows
mod StepsRead
mod RowPlaces
mod ChainRead
mod WorkedTexts
mod TraceRead
mod AcceptedTexts
mod Lengths
