-- What a station that lost frames lacks of a pass (CCSDS 132.0-B).
use Rattle.std.specs.Prelude.{◌≡◌, ℕ, not, List, []}
use Rattle.std.specs.List.{filter}
use Rattle.std.specs.List.Sorted.{IsPermutation}
use Rattle.sl_packet.specs.Packets.{without_idle}
use Rattle.sl_pair.specs.OnlyIn.{only_in}
use Rattle.sl_tmframe.specs.TmFrame.{TmView}
use Rattle.sl_tmflow.specs.Delivery.{deliveries_of, packets_delivered}
use Rattle.sl_tmflow.specs.Loss.{IsRecordingOfKept, keeps_run, recorded_channel}
use Rattle.sl_engine.specs.Compare.{by_channel}
use Rattle.sl_engine.specs.Kind.Tm.{tm_packets}
use Rattle.sl_engine.specs.Link.Managed.{Parameters, tm_format}

-- the packets of a virtual channel that ran through a lost frame, idle ones left out; the frames that were kept have
-- these numbers
abbrev pub lost_packets : List ℕ → List TmView → List (List ℕ)
lost_packets numbers channel =
    without_idle (packets_delivered (filter (λ whole. not (keeps_run numbers whole)) (deliveries_of channel)))

-- Of two recordings, one of a whole virtual channel and one of its kept frames: the packets that only the first delivers
-- there are those that ran through a lost frame, in some order, and the second has none of its own.
pub record LacksLostPackets (p : Parameters) (vc : ℕ) (numbers whole recording : List ℕ) : Type 0 where
  pub lacked :
      IsPermutation (only_in (by_channel (tm_packets p whole) vc) (by_channel (tm_packets p recording) vc))
      (lost_packets numbers (recorded_channel (tm_format p) p.spacecraft vc whole))
  pub nothing_more : only_in (by_channel (tm_packets p recording) vc) (by_channel (tm_packets p whole) vc) ≡ []

-- ---- laws

-- A recording that lost frames of a virtual channel, fewer than 256 in a row, lacks exactly the packets that ran through
-- these.
abbrev pub StationsLackLostPackets : Type 0
StationsLackLostPackets =
    (p : Parameters) (vc : ℕ) (numbers whole recording : List ℕ)
    → IsRecordingOfKept (tm_format p) p.spacecraft vc numbers whole recording
    → LacksLostPackets p vc numbers whole recording
