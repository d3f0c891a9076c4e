pub mod Diagram
pub mod Operands
pub mod Rows
pub mod Decoded
pub mod Laws
pub mod Refusals
