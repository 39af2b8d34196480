pub mod Stores
pub mod Hosts
pub mod Others
