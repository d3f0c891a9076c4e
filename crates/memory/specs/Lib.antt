pub mod Flats
pub mod Prepared
