-- What proofs stand on: lemmas over the definitions, in the same folders as these.

-- what holds of the definitions alone
pub mod Laws
-- the command line, and a run
pub mod Program
