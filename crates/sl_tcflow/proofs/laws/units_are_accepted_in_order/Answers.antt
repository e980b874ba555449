use Rattle.sl_tcflow.proofs.lemmas.Reception.Reordered.{units_in_order, vr_counts_units, receiver_counts_units, window_is_near, window_never_locks, expected_unit_is_accepted}
use Rattle.sl_tcflow.proofs.laws.units_are_accepted_in_order.Goals as goal

pub returns : goal.returns
returns c = record {
  order = units_in_order;
  vr = vr_counts_units;
  receiver = receiver_counts_units;
  near = window_is_near;
  «open» = window_never_locks;
  expected = expected_unit_is_accepted;
}
