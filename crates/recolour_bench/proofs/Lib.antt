mod Recoloured
mod Unused
mod Joined
mod Merging
mod OwnClosures
mod EditTests
mod RawEdits
mod ProductEdits
mod Chains
mod Stepping
mod Alike
mod Showing
mod Keeping
pub mod LawProofs
mod MadeStages
