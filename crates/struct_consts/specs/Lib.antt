pub mod ClassData
pub mod Laws
pub mod Kept
pub mod Lookup
pub use Rattle.triangle_count.specs.Row
pub use Rattle.triangle_count.specs.declared.rows.Entry
