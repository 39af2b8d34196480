pub mod Joined
pub mod Results
pub mod Runs
pub mod Tables
pub mod Tests
