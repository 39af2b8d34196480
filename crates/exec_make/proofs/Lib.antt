pub mod Newly
pub mod Callee
pub mod Hooked
