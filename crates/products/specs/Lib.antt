pub mod Product
pub mod Steps
pub mod Law
