pub mod Suspend
pub mod Yielding
