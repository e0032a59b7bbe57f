mod Tallies
pub mod RowLemmas
pub mod CacheLemmas
