-- What a station that lost frames lacks.
use Rattle.std.proofs.Common.{◌≡◌, Bool, true, false, not, List, [], ◌∷◌, ◌++◌, ◌+◌, refl, arith}
use Rattle.std.specs.List.{filter}
use Rattle.std.specs.List.Sorted.{IsPermutation}
use Rattle.std.proofs.lemmas.List.Sorted.{IsPermutation-cons, IsPermutation-middle, IsPermutation-refl, IsPermutation-sym, IsPermutation-trans}
use Rattle.std.proofs.lemmas.List.FromFn.{get_or-map-range_with_len}
use Rattle.sl_packet.specs.Packet.{is_idle_packet}
use Rattle.sl_packet.specs.Packets.{without_idle}
use Rattle.sl_pair.proofs.LostLemmas.{lacks_what_was_lost}
use Rattle.sl_tmflow.specs.Delivery.{Delivery, deliveries_of, packets_delivered}
use Rattle.sl_tmflow.specs.Loss.{keeps_run, kept_packets, recorded_channel}
use Rattle.sl_tmflow.proofs.lemmas.Loss.Kept.{recorded_are_kept}
use Rattle.sl_link.specs.Laws.Lost.{StationsLackLostPackets, lost_packets}
use Rattle.sl_tmflow.specs.Recording.{packets_of_channel, recorded_views}
use Rattle.sl_engine.specs.Compare.{by_channel}
use Rattle.sl_engine.specs.Kind.Tm.{tm_packets}
use Rattle.sl_engine.specs.Link.Managed.{tm_format}

-- the packets, idle ones left out, are in some order those that pass a test and those that don't
divided : (keep : Delivery → Bool) (all : List Delivery)
    → IsPermutation (without_idle (packets_delivered all)) (without_idle (packets_delivered (filter keep all)) ++ without_idle (packets_delivered (filter (λ d. not (keep d)) all)))
divided keep [] = IsPermutation-refl []
divided keep (d ∷ all) = go (keep d) refl (is_idle_packet d.packet) refl (divided keep all)
  where
    go : (keeps : Bool) → keep d ≡ keeps → (idle : Bool) → is_idle_packet d.packet ≡ idle
        → IsPermutation (without_idle (packets_delivered all)) (without_idle (packets_delivered (filter keep all)) ++ without_idle (packets_delivered (filter (λ e. not (keep e)) all)))
        → IsPermutation (without_idle (packets_delivered (d ∷ all))) (without_idle (packets_delivered (filter keep (d ∷ all))) ++ without_idle (packets_delivered (filter (λ e. not (keep e)) (d ∷ all))))
    go true keeps true idle moved = rw (keeps, idle) moved
    go true keeps false idle moved = rw (keeps, idle) (IsPermutation-cons d.packet _ _ moved)
    go false keeps true idle moved = rw (keeps, idle) moved
    go false keeps false idle moved =
        let kept = without_idle (packets_delivered (filter keep all)) in
        let lost = without_idle (packets_delivered (filter (λ e. not (keep e)) all)) in
        rw (keeps, idle) (IsPermutation-trans _ (d.packet ∷ (kept ++ lost)) _ (IsPermutation-cons d.packet _ _ moved) (IsPermutation-sym _ _ (IsPermutation-middle kept d.packet lost)))

pub stations_lack_lost_packets : StationsLackLostPackets
stations_lack_lost_packets p vc numbers whole recording is =
    let format = tm_format p in
    let channel = recorded_channel format p.spacecraft vc whole in
    let all = without_idle (packets_delivered (deliveries_of channel)) in
    let here : 0 + vc ≡ vc = omega arith in
    let whole_is : by_channel (tm_packets p whole) vc ≡ all =
    get_or-map-range_with_len (λ vc. without_idle (packets_of_channel (recorded_views format p.spacecraft whole) vc)) 0 8 vc vc [] is.channel here in
    let kept_is : by_channel (tm_packets p recording) vc ≡ without_idle (kept_packets numbers channel) = recorded_are_kept format p.spacecraft vc numbers whole recording is in
    let lacks = lacks_what_was_lost all (without_idle (kept_packets numbers channel)) (lost_packets numbers channel) (divided (keeps_run numbers) (deliveries_of channel)) in
    record { lacked = rw (whole_is, kept_is) lacks.0; nothing_more = rw (whole_is, kept_is) lacks.1 }
