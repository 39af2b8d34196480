pub mod Pushing
pub mod Entering
pub mod Granting
pub mod Looking
pub mod Iterators
pub mod Stopping
