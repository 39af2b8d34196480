pub mod Iter
pub mod Deliver
pub mod Finish
pub mod Last
pub mod Returned
