pub mod Pick
pub mod Parts
pub mod Chunks
pub mod Tests
