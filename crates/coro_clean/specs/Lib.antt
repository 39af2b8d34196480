pub mod Charge
pub mod Start
pub mod Loss
pub mod Join
