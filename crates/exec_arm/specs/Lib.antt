pub mod Arm
