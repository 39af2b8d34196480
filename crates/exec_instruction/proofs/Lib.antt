pub mod Passing
pub mod Gated
