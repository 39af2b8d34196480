pub mod Held
pub mod Parts
pub mod Setting
pub mod NewRow
pub mod Creation
pub mod Keying
pub mod Sounds
