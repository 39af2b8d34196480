pub mod Story
pub mod Watch
