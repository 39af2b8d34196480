pub mod Codes
pub mod Call
pub mod Answer
