pub mod Fuel
pub mod Engine
pub mod Claim
