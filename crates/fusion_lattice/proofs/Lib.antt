mod Refining
mod FusionPlaces
mod MeetStrings
mod OneCommon
mod Heads
mod SetBits
mod CoverLemmas
mod CoverCalls
pub mod LawProofs
