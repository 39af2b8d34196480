pub mod Turning
pub mod Below
pub mod Handlers
pub mod Along
pub mod Raising
