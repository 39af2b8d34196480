pub mod Outcome
pub mod Look
pub mod Stop
