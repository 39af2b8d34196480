pub mod Kept
pub mod Reachable
