pub mod Edits
pub mod Recolouring
pub mod EntryChains
pub mod History
pub mod Steps
pub mod Law
pub mod Words
pub mod Kept
