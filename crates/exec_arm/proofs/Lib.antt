pub mod Tags
pub mod Fitting
