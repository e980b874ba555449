use Rattle.sl_tmflow.proofs.lemmas.Merge.{none_is_lost, recorded_are_delivered, within_is_transitive}
use Rattle.sl_tmflow.proofs.laws.tm_more_frames_deliver_no_less.Goals as goal

pub returns : goal.returns
returns c = record { channel = none_is_lost; recording = recorded_are_delivered; again = within_is_transitive }
