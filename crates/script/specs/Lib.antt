pub mod Play
pub mod Words
