pub mod Sent
pub mod Thrown
