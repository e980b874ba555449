-- The listings.
pub mod Check
pub mod Listing
pub mod Packets
pub mod Show
