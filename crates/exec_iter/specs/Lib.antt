pub mod Iter
