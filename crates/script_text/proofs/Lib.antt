pub mod LawProofs
mod NumberForms
mod KeywordTests
mod KnownActs
mod FaultyWords
mod ActWords
mod LineWords
mod LineLemmas
mod ScriptLines
mod WholeScript
mod ScriptLaw
