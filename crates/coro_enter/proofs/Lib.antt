pub mod Parts
pub mod Entry
pub mod Accepts
pub mod Closing
pub mod Lands
pub mod Entries
