-- the flags of a CLCW
pub mod Flags
-- segment headers
pub mod Segments
