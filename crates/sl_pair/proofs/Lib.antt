-- maps with the octets of packets as their keys, and the queues in them
pub mod QueueLemmas
-- copies of packets
pub mod CopiesLemmas
-- which copy of a packet stands at which place
pub mod CounterpartLemmas
-- what both have, and what only one has
pub mod DividedLemmas
-- the forms of one definition
pub mod FormsLemmas
-- packets that have the numbers of their counterparts
pub mod InPlaceLemmas
-- what a store lists as left
pub mod LeftLemmas
-- lists, and tests of numbers
pub mod ListLemmas
-- recordings that lost packets of another one
pub mod LostLemmas
-- the packets that only one of two recordings has, and those that both have
pub mod OnlyInLemmas
-- one recording on one channel
pub mod SideLemmas
-- the channels of a store
pub mod PairingLemmas
-- worked examples
mod PairFacts
-- packets with their numbers, and those that wait for a counterpart
pub mod PlacedLemmas
-- lists whose elements have numbers that rise
pub mod RisingLemmas
-- packets in the order of their APIDs, and their runs
pub mod RunsLemmas
-- recordings with the same packets, in some order or in the same one
pub mod ReorderedLemmas
-- recordings with as many copies of each packet
pub mod SameCopies
-- copies that are struck out of what is left
pub mod StruckLemmas
-- two recordings that are read in turns
pub mod TurnsLemmas
-- laws of the order of APIDs, of runs and of numbers
pub mod OrderLemmas
