pub mod SchemeTests
pub mod Steps
pub mod Law
