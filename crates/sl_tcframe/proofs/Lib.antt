-- the numbers at which flags are set
pub mod VcSetLemmas
-- a text of virtual channels, and how it is split
pub mod VcTextLemmas
-- texts that list virtual channels, and some that don't
pub mod VcSetFacts
-- a frame has its parts, and no others
pub mod PartLemmas
-- the frames of chunks one after another
pub mod ChunkLemmas
-- the first reason to skip a frame, or its one content
pub mod ReadLemmas
-- the frames of a recording
pub mod DelimitedLemmas
-- fronts of known octets
pub mod FramingFacts
-- frames of a recording that comes in chunks
pub mod FramingLemmas
-- an incomplete front can become a frame
pub mod BecomeLemmas
-- a frame of type AD, made and read back
pub mod AdFrameLemmas
-- a frame read from its octets, part by part
pub mod TcFrameLemmas
-- known frames, read, written and cut
pub mod TcFrameFacts
