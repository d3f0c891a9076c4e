pub mod Flow
pub mod Lists
pub mod Outcome
