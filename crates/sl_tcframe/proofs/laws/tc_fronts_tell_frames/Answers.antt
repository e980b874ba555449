use Rattle.sl_tcframe.proofs.BecomeLemmas.{incomplete_becomes_frame}
use Rattle.sl_tcframe.proofs.ChunkLemmas.{below_least_is_no_frame, fronts_are_frames}
use Rattle.sl_tcframe.proofs.laws.tc_fronts_tell_frames.Goals as goal

pub returns-clause-whole : goal.returns-clause-whole
returns-clause-whole c = fronts_are_frames

pub returns-clause-below : goal.returns-clause-below
returns-clause-below c = below_least_is_no_frame

pub returns-clause-incomplete : goal.returns-clause-incomplete
returns-clause-incomplete c = incomplete_becomes_frame
