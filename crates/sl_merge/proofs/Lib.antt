-- the frames that fates take
pub mod TakenLemmas
-- stretches of frames
pub mod ReasonLemmas
-- frames that would stand twice
pub mod TwiceLemmas
-- what is seen of frames, and what a merge asks
pub mod MergeLemmas
-- numbers of frames
pub mod CountLemmas
-- what stands of the first recording, within all that stands
pub mod WithinLemmas
-- frames that are the one before them once more
pub mod RepeatLemmas
-- worked examples
mod MergeFacts
-- what a recording delivers
pub mod RecordedLemmas
