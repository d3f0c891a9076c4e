pub mod Choosing
pub mod Counting
pub mod Executing
pub mod Guarding
pub mod Isolating
pub mod Returns
pub mod Running
pub mod Stepping
