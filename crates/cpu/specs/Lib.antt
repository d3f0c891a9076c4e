pub mod Performed
pub mod Responses
pub mod Restored
