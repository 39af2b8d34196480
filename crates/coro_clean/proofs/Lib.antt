pub mod Paid
pub mod Search
pub mod Starting
pub mod Loss
pub mod Closes
pub mod Charged
pub mod Joins
