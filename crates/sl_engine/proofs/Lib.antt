-- worked examples
pub mod facts
-- what proofs stand on
pub mod lemmas
