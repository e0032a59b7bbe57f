pub mod Closed
pub mod Way
