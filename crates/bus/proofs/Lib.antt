pub mod Alignment
pub mod Answer
pub mod Isolation
pub mod Memory
pub mod Programs
