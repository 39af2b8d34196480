pub mod Settled
pub mod Keys
pub mod Yields
