pub mod facts
pub mod lemmas
