pub mod Back
pub mod Typed
pub mod Past
pub mod Reading
pub mod Answers
pub mod Gates
