use Rattle.sl_tcflow.proofs.lemmas.Anomaly.Told.{stray_is_told, what_is_told_is_stray, dropped_is_told, what_is_told_is_dropped, long_is_told, what_is_told_is_long}
use Rattle.sl_tcflow.proofs.lemmas.Anomaly.Tail.{tail_is_told, what_is_told_is_tail}
use Rattle.sl_tcflow.proofs.laws.tc_anomalies_are_told.Goals as goal

pub returns : goal.returns
returns c = record {
  stray = stray_is_told;
  is_stray = what_is_told_is_stray;
  dropped = dropped_is_told;
  is_dropped = what_is_told_is_dropped;
  long = long_is_told;
  is_long = what_is_told_is_long;
  tail = tail_is_told;
  is_tail = what_is_told_is_tail;
}
