pub mod Entries
pub mod Lists
pub mod Masks
pub mod Limits
pub mod Packing
