-- what waits, as packets with their numbers
pub mod Left
-- how many copies of a packet there are, and which packets only one of two recordings has
pub mod OnlyIn
-- the store of two recordings
pub mod Pairing
-- packets with their numbers
pub mod Placed
-- the queues of the store
pub mod Queue
-- what only one recording has, APID by APID, in runs
pub mod Runs
-- what a store keeps of one recording on one channel
pub mod Side
-- the places at which packets wait in the store
pub mod Store
-- two recordings that are read in turns
pub mod Turns
-- the copies of one packet that have no counterpart yet
pub mod Waiting
