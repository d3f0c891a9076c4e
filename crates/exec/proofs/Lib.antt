pub mod Lists
pub mod Sequence
