pub mod Demonstration
pub mod Law
