-- frames end to end, and the octets after them
pub mod DelimitedLemmas
-- frames of a recording that comes in chunks
pub mod FramingLemmas
-- a frame of packets, made and read back
pub mod PacketFrameLemmas
-- a frame has its parts, and no others
pub mod PartLemmas
-- the first reason to skip a frame, or its one class
pub mod ReadLemmas
-- known frames, read, written and cut
pub mod TmFrameFacts
-- a frame read from its octets, part by part
pub mod TmFrameLemmas
