pub mod Words
pub mod Host
