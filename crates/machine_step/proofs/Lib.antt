pub mod Calls
pub mod Gating
pub mod Keeping
pub mod Ranges
pub mod InRange
