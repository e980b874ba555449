-- Packets that are delivered.
-- the state that the frames of a channel lead to
pub mod Channel
-- packets in the order of their ends, none of which share an octet
pub mod End
-- what an extractor hands over
pub mod Handed
-- the list of the deliveries of a channel
pub mod Listed
-- one more frame
pub mod OneMore
-- the outcome of a packet start
pub mod Outcome
-- the packets of one more frame, after those before
pub mod Push
-- the packets of a recording
pub mod Recording
-- the packet starts of a data field
pub mod Start
-- an incomplete packet at the next frame
pub mod Step
