use Rattle.sllink_merge.proofs.MergeLemmas.{merged_by_same, refused_for_same}
use Rattle.sllink_merge.proofs.merge.merge_by.Goals as goal

pub returns-in-Ok-packets_of-clause-merged : goal.returns-in-Ok-packets_of-clause-merged
returns-in-Ok-packets_of-clause-merged g c = merged_by_same c.as_slice-fates.ensures.value c.in-Ok.ensures.merged

pub returns-in-Err-clause-refused : goal.returns-in-Err-clause-refused
returns-in-Err-clause-refused g c = λ known. refused_for_same c.args.link.now c.args.one.now c.args.other.now c.in-Err.why c.as_slice-fates.ensures.value (c.in-Err.ensures.refused known)
