use Rattle.sl_tcflow.proofs.lemmas.Reception.PlainRecording.{recorded_lists_fit}
use Rattle.sl_tcflow.proofs.lemmas.Reception.Recording.{recorded_lists_are_deliverable}
use Rattle.sl_tcflow.proofs.laws.tc_recordings_deliver_packets.Goals as goal

pub returns : goal.returns
returns c = record { packets = recorded_lists_are_deliverable; fit = recorded_lists_fit }
