pub mod Resume
pub mod Throw
