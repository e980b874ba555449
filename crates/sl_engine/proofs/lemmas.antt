-- What proofs stand on: lemmas over the definitions, in the same folders as these.

-- two recordings that are read in turns
pub mod Compare
-- chunks divided into frames
pub mod Framing
-- lines that wait, digits, and streams
pub mod Io
-- what the frames of a kind deliver
pub mod Kind
-- parameters, faults, and what calls answer
pub mod Link
-- normal forms, written and compared
pub mod Normalise
-- the listings
pub mod Verbs
