-- The packets that FARM-1 accepts from a recording.
use Rattle.std.proofs.Common.{arith, ◌≡◌, ℕ, Bool, true, false, nat_le, if◌then◌else◌, List, [], length, map}
use Rattle.std.specs.List.{AllByRecursion}
use Rattle.std.proofs.lemmas.List.FromFn.{length-map-range_with_len}
use Rattle.sl_packet.specs.Delivered.{IsDeliverable, channel_count}
use Rattle.sl_packet.specs.Packet.{IsPacket}
use Rattle.sl_packet.specs.Packets.{packets_of, without_idle}
use Rattle.sl_packet.proofs.PacketsLemmas.{each_has_packets}
use Rattle.sl_packet.proofs.WithoutIdleLemmas.{without_idle_due}
use Rattle.sl_tcframe.specs.TcFrame.{TcView}
use Rattle.sl_tcflow.specs.FormDelivery.{RecordedListsAreDeliverable}
use Rattle.sl_tcflow.specs.Reception.{packets_of_series}
use Rattle.sl_tcflow.specs.ReceptionParameters.{ReceptionParameters}
use Rattle.sl_tcflow.specs.Recording.{map_channels, packets_of_channel, recorded_views}
use Rattle.sl_tcflow.specs.Series.{SeriesAt, reassembled}
use Rattle.sl_fields.proofs.ListLemmas.{each-every, each-flat_map, each-map}
use Rattle.std.specs.List.{range_with_len}

packets_if : (fits : Bool) (octets : List ℕ) → AllByRecursion IsPacket (if fits then packets_of octets else [])
packets_if true octets = (each_has_packets octets).each
packets_if false octets = tt

in_series : (s : SeriesAt) → AllByRecursion IsPacket (packets_of_series s.segments)
in_series s = packets_if (nat_le (length (reassembled s.segments)) 65542) (reassembled s.segments)

channel_due : (r : ReceptionParameters) (views : List TcView) (channel : ℕ) → AllByRecursion IsDeliverable (without_idle (packets_of_channel r views channel))
channel_due r views channel = search (arith, without_idle_due, each-flat_map, each-every, in_series)

all_channels : (f : ℕ → List (List ℕ)) → length (map f map_channels) ≡ channel_count
unfolding map_channels
all_channels f = length-map-range_with_len f 0 channel_count

each_channel : (f : ℕ → List (List ℕ)) → ((channel : ℕ) → AllByRecursion IsDeliverable (f channel)) → AllByRecursion (AllByRecursion IsDeliverable) (map f map_channels)
unfolding map_channels
each_channel f each = each-map (AllByRecursion IsDeliverable) f (range_with_len 0 channel_count) (each-every (λ channel. AllByRecursion IsDeliverable (f channel)) each (range_with_len 0 channel_count))

pub recorded_lists_are_deliverable : RecordedListsAreDeliverable
recorded_lists_are_deliverable format spacecraft r recording =
    let views = recorded_views format spacecraft recording in
    record {
      all = all_channels (λ channel. without_idle (packets_of_channel r views channel));
      each = each_channel (λ channel. without_idle (packets_of_channel r views channel)) (channel_due r views);
    }
