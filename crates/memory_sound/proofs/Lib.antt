pub mod Held
pub mod Rowed
pub mod Passed
pub mod Exactly
