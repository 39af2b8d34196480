pub mod Stepping
pub mod Begun
pub mod Seen
