pub mod Diagonals
pub mod GoodSets
pub mod Laws
pub mod Marked
pub mod Products
pub mod Transposed
pub use Rattle.visitors.specs.Lists
