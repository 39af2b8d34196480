pub mod Written
pub mod Along
pub mod Ended
