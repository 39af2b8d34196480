pub mod Suspend
