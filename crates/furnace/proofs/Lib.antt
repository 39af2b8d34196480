pub mod Words
pub mod Bodies
pub mod Watching
pub mod Playing
