-- Series of segments.
-- the segments of a packet
pub mod Divided
-- octets that are too many for a service data unit
pub mod Fit
-- the series that is incomplete
pub mod Incomplete
-- the list of all series
pub mod Listed
-- a list with one more segment
pub mod OneMore
-- segments put together again
pub mod Part
-- segments as units of frames
pub mod Segment
-- units without segment headers
pub mod Whole
