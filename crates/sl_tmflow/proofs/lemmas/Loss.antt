-- Lost frames.
-- the packets of the kept frames
pub mod Kept
-- deliveries whose frames were all kept
pub mod KeptFrames
-- numbers that rise, and such deliveries
pub mod KeptRun
-- loss is local
pub mod Local
