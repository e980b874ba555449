use Rattle.std.proofs.Common.{◌∙◌, ◌++◌, map, ap, sym}
use Rattle.std.specs.Prelude.{bytes_eq}
use Rattle.std.specs.HashMap.{get_by}
use Rattle.std.specs.List.{filter}
use Rattle.std.specs.Option.{option_to_list}
use Rattle.std.proofs.lemmas.List.{map-append}
use Rattle.sl_pair.specs.Left.{placed_at}
use Rattle.sl_pair.specs.Queue.{queued}
use Rattle.sl_pair.specs.Waiting.{same_packet}
use Rattle.sl_pair.proofs.waiting.Waiting.left.Goals as goal

pub returns : goal.returns
returns g c = λ q.
    let w = c.args.self.now in
    let newest = option_to_list (get_by (bytes_eq q) w.newest) in
    c.in_ok-push_places.ensures q
    ∙ ap (λ l. l ++ map (placed_at q) newest) (c.in_ok-push_queues.ensures q
    ∙ ap (λ l. filter (same_packet q) l ++ map (placed_at q) (queued w.earlier q)) c.in_ok-left.ensures.items)
    ∙ sym (map-append (placed_at q) (queued w.earlier q) newest)
