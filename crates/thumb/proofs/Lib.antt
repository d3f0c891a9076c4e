pub mod Known
pub mod Pieces
pub mod Settled
pub mod Undefined
pub mod Laws
pub mod Stands
