-- Anomalies, and the report on them.
-- the report on the next frame
pub mod Report
-- the octets left after the packets of a service data unit
pub mod Tail
-- what is out of sequence, dropped or too long
pub mod Told
