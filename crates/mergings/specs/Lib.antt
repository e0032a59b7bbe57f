pub mod Cuts
pub mod Leasts
pub mod Listed
pub mod Searches
pub mod Mergings
pub use Rattle.visitors.specs.Lists
