pub mod Batch
pub mod Library
pub mod Linked
