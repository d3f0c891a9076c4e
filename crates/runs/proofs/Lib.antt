pub mod Parts
pub mod Remainder
pub mod Steps
pub mod Whole
