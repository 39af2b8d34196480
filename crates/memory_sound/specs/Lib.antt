pub mod Words
pub mod Exactly
