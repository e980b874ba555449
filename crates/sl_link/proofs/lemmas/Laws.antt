-- What the laws stand on.

-- what is anomalous, by relations, and the listing
pub mod Anomaly
-- numbers of a comparison, and lines of differences
pub mod Compared
-- each channel's lines are its delivered packets
pub mod Listed
-- what a station lacks is what it lost
pub mod Lost
-- equal normal forms, same packets
pub mod Separation
