-- What proofs stand on: lemmas over the definitions, by theme.
-- what a report says of the next segment
pub mod Anomaly
-- what is counted of a service data unit that comes in parts
pub mod Count
-- the counts of the series that are incomplete
pub mod Counter
-- lists with a property of each element
pub mod Each
-- the normal form, made and read back
pub mod Form
-- what FARM-1 accepts, and the packets of it
pub mod Reception
-- the series in a MAP's list of segments
pub mod Series
