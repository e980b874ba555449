-- Incomplete packets.
-- after the last frame
pub mod After
-- broken off by the next frame
pub mod BrokenOff
-- the octets that decide what becomes of one
pub mod Enough
-- the list of those of a channel
pub mod List
-- a channel has one at most
pub mod OneStart
