pub mod CodeCounts
pub mod RowCodes
pub mod Sides
pub mod Comparing
pub mod Hashes
pub mod Sorting
pub mod Sweeps
pub mod Coming
