-- builders and getters, and what a parse says of words
pub mod CommandLine
-- words that aren't refused name a verb and are complete
pub mod Complete
-- the flush after an engine; help and the version
pub mod Run
-- where the names of the kinds lie makes no difference
pub mod SameWalk
-- what a walk over words without a fault keeps
pub mod Walk
