-- Frames that are received.
-- one more frame, by channel
pub mod Channel
-- the packets that end with the next segment
pub mod Ended
-- FARM-1 of each virtual channel
pub mod Farm
-- what a receiver hands over
pub mod Handed
-- recordings of channels without segment headers
pub mod PlainRecording
-- the packets of a recording
pub mod Recording
-- frames of type AD in any order
pub mod Reordered
-- the accepted unit of the next frame
pub mod Unit
