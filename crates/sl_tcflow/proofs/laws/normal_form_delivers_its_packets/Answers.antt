use Rattle.sl_tcflow.proofs.lemmas.Form.Delivery.{normal_form_is_frames, no_frame_is_long, normal_form_delivers}
use Rattle.sl_tcflow.proofs.lemmas.Form.Order.{no_frame_is_skipped}
use Rattle.sl_tcflow.proofs.laws.normal_form_delivers_its_packets.Goals as goal

pub returns : goal.returns
returns c = record { frames = normal_form_is_frames; within = no_frame_is_long; packets = normal_form_delivers; read = no_frame_is_skipped }
