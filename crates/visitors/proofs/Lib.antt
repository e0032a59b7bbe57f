pub mod MaskSets
mod Deliveries
pub mod Packings
