-- where a marker stands, and where more octets change nothing
pub mod MarkerLemmas
-- the sequences of the randomisers, and their tables
pub mod RandomiserLemmas
-- the parts of a file, from a place on
pub mod UnitsLemmas
-- counts of parts
pub mod TotalsLemmas
-- a window that is cut, a part at a time
pub mod WindowLemmas
-- what is seen of units of one length
pub mod CaduLemmas
-- code blocks, one more
pub mod CodeBlockLemmas
-- frames end to end
pub mod TcFramesLemmas
-- what is seen of CLTUs
pub mod CltuLemmas
-- known sequences, code blocks and CLTUs
pub mod CltuFacts
-- known units of one length
pub mod CaduFacts
-- laws on units of one length
pub mod CaduLawLemmas
-- the law on CLTUs
pub mod CltuLawLemmas
-- a file that is read chunk by chunk
pub mod ReadingLemmas
