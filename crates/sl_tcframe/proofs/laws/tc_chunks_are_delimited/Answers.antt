use Rattle.sl_tcframe.proofs.ChunkLemmas.{any_chunks_are_taken, chunks_are_delimited}
use Rattle.sl_tcframe.proofs.laws.tc_chunks_are_delimited.Goals as goal

pub returns-clause-any : goal.returns-clause-any
returns-clause-any c = any_chunks_are_taken

pub returns-clause-delimited : goal.returns-clause-delimited
returns-clause-delimited c = chunks_are_delimited
