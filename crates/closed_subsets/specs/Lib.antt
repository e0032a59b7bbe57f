pub mod Closedness
pub mod Products
pub use Rattle.visitors.specs.Lists
