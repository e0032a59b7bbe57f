pub mod Closing
mod Tables
mod Masked
