pub mod LawProofs
mod Paths
mod SearchLemmas
mod ClosedSets
mod TestLemmas
mod SomeMarks
mod SomeAnswers
mod OneOrder
