use Rattle.std.proofs.Common.{◌/◌, ◌%◌, ap, arith}
use Rattle.sl_tcflow.specs.AcceptedUnit.{views_of}
use Rattle.sl_engine.specs.Link.Managed.{reception_of, tc_format}
use Rattle.sl_engine.specs.Verbs.Check.Tc.{incomplete_anomaly}
use Rattle.sl_engine.proofs.lemmas.Verbs.Check.FewTc.{few_open}
use Rattle.sl_engine.proofs.verbs.check.checked.UnitCounterChecked.open_below.Goals as goal

pub returns-clause-none : goal.returns-clause-none
returns-clause-none c = λ p offset frames h channel above below.
    let vc = channel / 64 in
    let map_id = channel % 64 in
    ap (incomplete_anomaly offset vc map_id)
    (c.none_open_from.ensures.none (reception_of p) (views_of (tc_format p) p.spacecraft frames) h.processed vc map_id
    (omega (arith, below)) (omega (arith, below)) (omega (arith, above)))

pub returns-clause-few : goal.returns-clause-few
returns-clause-few c = few_open
