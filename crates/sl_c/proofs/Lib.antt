-- parameters that C gives, as those of a link
pub mod LinkLemmas
-- as much of a text as fits; whether packets are the same
pub mod RecordingLemmas
