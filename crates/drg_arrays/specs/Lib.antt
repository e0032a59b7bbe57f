pub mod Graph
pub mod Distance
pub mod IntersectionArray
pub mod Answer
pub mod Tables
pub mod Law
