pub mod Ones
pub mod Going
