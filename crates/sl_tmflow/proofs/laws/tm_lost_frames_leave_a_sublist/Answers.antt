use Rattle.sl_tmflow.proofs.lemmas.Delivery.Handed.{handed_over_are_kept, handed_over_are_sublist}
use Rattle.sl_tmflow.proofs.lemmas.Loss.Kept.{packets_are_kept, packets_are_sublist, recorded_are_kept, recorded_are_sublist, test_tells_run}
use Rattle.sl_tmflow.proofs.laws.tm_lost_frames_leave_a_sublist.Goals as goal

pub returns : goal.returns
returns c = record {
  run = test_tells_run;
  exactly = packets_are_kept;
  channel = packets_are_sublist;
  handed_over_exactly = handed_over_are_kept;
  handed_over = handed_over_are_sublist;
  recording_exactly = recorded_are_kept;
  recording = recorded_are_sublist;
}
