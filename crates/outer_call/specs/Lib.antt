pub mod State
pub mod SetUp
pub mod Look
