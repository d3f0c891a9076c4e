pub mod Hop
pub mod Panel
pub mod Region
pub mod RegionCheck
pub mod Split
pub mod Strip
