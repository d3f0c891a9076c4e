pub mod Deciders
pub mod Hops
pub mod Listed
pub mod Panels
pub mod Placed
pub mod Regions
pub mod Splits
pub mod Strips
