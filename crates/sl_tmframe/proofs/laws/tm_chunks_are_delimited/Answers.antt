use Rattle.sl_tmframe.proofs.FramingLemmas.{any_chunks_are_taken, chunks_are_delimited, short_becomes_frame}
use Rattle.sl_tmframe.proofs.laws.tm_chunks_are_delimited.Goals as goal

pub returns-clause-any : goal.returns-clause-any
returns-clause-any c = any_chunks_are_taken

pub returns-clause-delimited : goal.returns-clause-delimited
returns-clause-delimited c = chunks_are_delimited

pub returns-clause-short : goal.returns-clause-short
returns-clause-short c = short_becomes_frame
