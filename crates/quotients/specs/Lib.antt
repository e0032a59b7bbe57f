pub mod Quotient
pub mod Steps
pub mod Law
