use Rattle.std.proofs.Common.{arith, subst, sym}
use Rattle.sl_tcflow.specs.Recording.{channel_at}
use Rattle.sl_tcflow.specs.UnitCounter.{AreCounted, CounterState}
use Rattle.sl_tcflow.proofs.lemmas.Counter.{none_kept, none_open}
use Rattle.sl_tcflow.proofs.unit_counter.UnitCounter.none_open_from.Goals as goal

pub returns-clause-none : goal.returns-clause-none
returns-clause-none c r views processed vc map_id vc_fits map_id_fits past =
    let counts = subst (λ (s : CounterState). AreCounted r s.counts views) (sym c.self.view_is) processed.counts in
    none_open _ _ (counts vc map_id (omega (arith, vc_fits)) (omega (arith, map_id_fits)))
    (c.none_open_from.ensures.none (channel_at vc map_id) (omega (arith, vc_fits, map_id_fits)) past)

pub returns-clause-least : goal.returns-clause-least
returns-clause-least c r views processed vc map_id vc_fits map_id_fits last none =
    let counts = subst (λ (s : CounterState). AreCounted r s.counts views) (sym c.self.view_is) processed.counts in
    c.none_open_from.ensures.least (channel_at vc map_id) last
    (none_kept _ _ (counts vc map_id (omega (arith, vc_fits)) (omega (arith, map_id_fits))) none)
