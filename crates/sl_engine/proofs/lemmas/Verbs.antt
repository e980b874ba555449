-- lines of anomalies
pub mod Check
-- a listing, frame by frame, and how it stops
pub mod Lister
-- lines of packets
pub mod Packets
-- lines of frames
pub mod Show
