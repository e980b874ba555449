-- The packets that a recording delivers.
use Rattle.std.proofs.Common.{ℕ, zero, suc, ◌+◌, List, [], ◌∷◌, map, refl}
use Rattle.std.specs.List.{AllByRecursion, range_with_len}
use Rattle.sl_packet.specs.Delivered.{IsDeliverable}
use Rattle.sl_packet.specs.Packet.{IsPacket}
use Rattle.sl_packet.specs.Packets.{without_idle}
use Rattle.sl_packet.proofs.WithoutIdleLemmas.{without_idle_due}
use Rattle.sl_tmframe.specs.TmFrame.{TmView}
use Rattle.sl_tmflow.specs.FormDelivery.{RecordedListsAreDeliverable}
use Rattle.sl_tmflow.specs.VirtualChannel.{views_on}
use Rattle.sl_tmflow.specs.Delivery.{Delivery, IsDelivery, deliveries_of, packets_delivered}
use Rattle.sl_tmflow.specs.Recording.{packets_of_channel, recorded_views}
use Rattle.sl_tmflow.proofs.lemmas.Delivery.Listed.{each_is_delivery}

are_packets : (channel : List TmView) (deliveries : List Delivery) → AllByRecursion (IsDelivery channel) deliveries → AllByRecursion IsPacket (packets_delivered deliveries)
are_packets channel [] each = tt
are_packets channel (d ∷ deliveries) each = (each.0.delivered.is_packet, are_packets channel deliveries each.1)

each_due : (views : List TmView) (from n : ℕ) → AllByRecursion (AllByRecursion IsDeliverable) (map (λ vc. without_idle (packets_of_channel views vc)) (range_with_len from n))
each_due views from zero = tt
each_due views from (suc n) =
    let channel = views_on from views in (
      without_idle_due (packets_of_channel views from) (are_packets channel (deliveries_of channel) (each_is_delivery channel)),
      each_due views (from + 1) n,
    )

pub recorded_lists_are_deliverable : RecordedListsAreDeliverable
recorded_lists_are_deliverable format spacecraft recording =
    record { eight = refl; each = each_due (recorded_views format spacecraft recording) 0 8 }
