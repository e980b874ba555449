-- ---- the frame error control field, in the order of reading
pub mod Fecf
pub mod FecfField
pub mod FecfWords
pub mod FecfFolds
pub mod Remainder
pub mod FecfRegister
-- ---- headers, and what the crates above share
pub mod Field
pub mod TmHeader
pub mod TmHeaderModel
pub mod TcHeader
pub mod TcHeaderModel
pub mod SegmentHeader
pub mod SegmentHeaderModel
pub mod PacketHeader
pub mod PacketHeaderModel
pub mod Clcw
pub mod ClcwModel
pub mod Bounds
pub mod NeverFall
