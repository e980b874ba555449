use Rattle.sl_tmflow.proofs.lemmas.Form.Delivery.{is_frames, none_is_skipped, delivers}
use Rattle.sl_tmflow.proofs.laws.normal_form_delivers_its_packets.Goals as goal

pub returns : goal.returns
returns c = record { frames = is_frames; read = none_is_skipped; packets = delivers }
