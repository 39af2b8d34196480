pub mod New
pub mod Indirect
pub mod Spawn
