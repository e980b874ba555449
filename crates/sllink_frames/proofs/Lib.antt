-- the marker of a text
pub mod MarkerLemmas
