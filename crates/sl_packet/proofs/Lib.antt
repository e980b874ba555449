-- how many packets octets can have
pub mod CountLemmas
-- the lists of a store after packets were added
pub mod DeliveredLemmas
-- lists filled up with one element
pub mod Filling
-- the front of octets
pub mod FrontLemmas
-- packets given one after another
pub mod GivenPackets
-- the loop that hands packets over
pub mod HandOver
-- the idle packet of a given length
pub mod IdlePacketLemmas
-- a channel's list, and what holds of each packet kept
pub mod KeptLemmas
-- known packets
pub mod PacketFacts
-- packets, and the fields in their first octets
pub mod PacketLemmas
-- what six octets and a number tell
pub mod OutlineLemmas
-- the packets at the front of octets
pub mod PacketsLemmas
-- kept lists, and an empty one for each channel after them
pub mod PaddedLemmas
-- the needs of known octets
pub mod PartialFacts
-- stores with the same packets on each channel
pub mod SamePackets
-- packets handed to a sink, list after list
pub mod StoppingLemmas
-- packets without the idle ones, and the idle ones alone
pub mod WithoutIdleLemmas
