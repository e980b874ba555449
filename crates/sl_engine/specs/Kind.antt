-- The two kinds of frames, and what frames of a kind deliver.
pub mod Delivery
pub mod FoundModel
pub mod Tc
pub mod Tm
