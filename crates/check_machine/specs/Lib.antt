pub mod Numbers
pub mod Table
pub mod Running
pub mod Saved
pub mod Rows
pub mod Whole
pub mod Rules
