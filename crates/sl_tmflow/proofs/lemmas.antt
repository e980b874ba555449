-- What proofs stand on: lemmas over the definitions, by theme.
-- gaps, other packet versions and held octets, as they are reported
pub mod Anomaly
-- the packets that frames deliver
pub mod Delivery
-- the normal form, made and read back
pub mod Form
-- packets that are incomplete, and those that a frame breaks off
pub mod Incomplete
-- what is still delivered where frames are lost
pub mod Loss
-- counting by outlines
pub mod Outline
-- the elements of a list, and their places
pub mod Places
-- what frames deliver where others stand between them
pub mod Merge
