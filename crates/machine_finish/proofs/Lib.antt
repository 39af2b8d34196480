pub mod Conversion
pub mod Results
pub mod Ends
