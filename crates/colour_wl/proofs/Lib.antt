pub mod Classes
pub mod Members
pub mod Growth
pub mod Sums
pub mod Merged
pub mod Existing
pub mod Resumed
mod Expanded
mod Sorting
mod Codes
mod ForcedRounds
pub mod SameStrings
pub mod Numbered
pub mod ColourRounds
mod Hashes
pub mod NamedMerges
pub mod StringsOf
pub mod Coarser
