-- steps and runs of FARM-1
pub mod FarmLemmas
-- known steps, runs and CLCWs
pub mod FarmFacts
-- which copies of frames in any order are accepted
pub mod ReorderedLemmas
-- known copies out of order, lost and repeated
pub mod ReorderedFacts
-- the V(R) of all virtual channels, some of them changed
pub mod StartsLemmas
-- a text of items `v:x`, and how it is split
pub mod StartsTextLemmas
-- texts that name V(R), and some that don't
pub mod StartsFacts
