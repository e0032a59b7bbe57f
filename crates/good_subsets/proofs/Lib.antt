pub mod BlockPlaces
pub mod Deciding
pub mod ByClosure
mod GoodTest
pub mod Blocks
pub mod MaskBits
mod GoodMasks
mod Rows
