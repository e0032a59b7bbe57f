mod Filling
mod DemoRows
mod DemoScript
pub mod LawProofs
