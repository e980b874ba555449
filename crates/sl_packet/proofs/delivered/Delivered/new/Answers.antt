use Rattle.std.proofs.Common.{◌∙◌, ap, map}
use Rattle.std.specs.Vec.{vec_items}
use Rattle.sl_packet.specs.KeptLists.{with_empty_lists}
use Rattle.sl_packet.proofs.PaddedLemmas.{padded_none}
use Rattle.sl_packet.proofs.delivered.Delivered.new.Goals as goal

pub returns-clause-lists : goal.returns-clause-lists
returns-clause-lists c = ap (λ lists. with_empty_lists (map (λ list. map vec_items (vec_items list)) lists)) c.new.ensures.items ∙ padded_none
