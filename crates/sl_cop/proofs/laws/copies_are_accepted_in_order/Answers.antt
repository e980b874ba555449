use Rattle.sl_cop.proofs.ReorderedLemmas.{accepted_in_order, vr_counts_accepted, in_window_are_near, window_keeps_open, expected_is_accepted}
use Rattle.sl_cop.proofs.laws.copies_are_accepted_in_order.Goals as goal

pub returns-clause-order : goal.returns-clause-order
returns-clause-order c = accepted_in_order

pub returns-clause-vr : goal.returns-clause-vr
returns-clause-vr c = vr_counts_accepted

pub returns-clause-near : goal.returns-clause-near
returns-clause-near c = in_window_are_near

pub returns-clause-open : goal.returns-clause-open
returns-clause-open c = window_keeps_open

pub returns-clause-expected : goal.returns-clause-expected
returns-clause-expected c = expected_is_accepted
