use Rattle.std.proofs.Common.{◌∙◌, ◌++◌, map, ap}
use Rattle.std.specs.Prelude.{bytes_eq}
use Rattle.std.specs.HashMap.{get_by}
use Rattle.std.specs.List.{filter}
use Rattle.sl_pair.specs.Left.{placed_at}
use Rattle.sl_pair.specs.Waiting.{same_packet}
use Rattle.sl_pair.proofs.LeftLemmas.{filter-added, queue-found, queue_places}
use Rattle.sl_pair.proofs.left.push_queues.Goals as goal

pub returns : goal.returns
returns g c = λ q.
    let m = c.args.queues.now in
    let before = c.args.left.now.items in
    filter-added queue_places m.entries c.loop-octets.octets-iterator before c.loop-octets.left.items
    c.into_iter-octets-iterator.ensures.into_iter_gives.4 c.in-None.ensures.steps.0 c.loop-octets.invariant q
    ∙ ap (λ l. filter (same_packet q) before ++ map (placed_at q) l) (queue-found (get_by (bytes_eq q) m))
