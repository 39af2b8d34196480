pub mod Parts
pub mod Innermost
pub mod Suspended
pub mod Delivered
