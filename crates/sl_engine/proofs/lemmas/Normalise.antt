-- a normal form written piece by piece
pub mod Form
-- a recording read whole, and then its normal form
pub mod Whole
