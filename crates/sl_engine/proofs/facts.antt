-- Worked examples, computed from the definitions.
pub mod CheckTc
pub mod CheckTm
pub mod Listings
pub mod NormalForms
pub mod Packets
pub mod Rows
