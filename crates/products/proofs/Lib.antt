mod Numbers
mod Labellings
mod Sums
mod Fusions
mod Products
mod Filling
pub mod LawProofs
