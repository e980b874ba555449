use Rattle.sl_tmflow.proofs.lemmas.Delivery.Recording.{recorded_lists_are_deliverable}
use Rattle.sl_tmflow.proofs.laws.tm_recordings_deliver_packets.Goals as goal

pub returns : goal.returns
returns c = recorded_lists_are_deliverable
