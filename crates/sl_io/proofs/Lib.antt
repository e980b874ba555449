-- faults and their causes, a text that is written, and the flush after it
pub mod StreamLemmas
