pub mod Layout
pub mod Sizes
pub mod Runs
pub mod Parts
pub mod Does
