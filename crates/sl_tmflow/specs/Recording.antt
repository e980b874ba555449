-- The packets that a recording of TM frames delivers on each virtual channel, CCSDS 132.0-B and
-- 133.0-B.
use Rattle.std.specs.Prelude.{ℕ, List, map}
use Rattle.std.specs.List.{range_with_len}
use Rattle.sl_packet.specs.Packets.{without_idle}
use Rattle.sl_tmframe.specs.TmDelimited.{tm_frames_of}
use Rattle.sl_tmframe.specs.TmFrame.{TmFormat, TmView}
use Rattle.sl_tmflow.specs.VirtualChannel.{views_of, views_on}
use Rattle.sl_tmflow.specs.Delivery.{deliveries_of, packets_delivered}

-- the views of the frames of a recording that aren't skipped, in order
abbrev pub recorded_views : TmFormat → ℕ → List ℕ → List TmView
recorded_views format spacecraft recording = views_of format spacecraft (tm_frames_of format.len recording)

-- the virtual channels of TM frames: 0 to 7
abbrev pub virtual_channels : List ℕ
virtual_channels = range_with_len 0 8

-- the packets that a virtual channel delivers, idle ones included
abbrev pub packets_of_channel : List TmView → ℕ → List (List ℕ)
packets_of_channel views vc = packets_delivered (deliveries_of (views_on vc views))

-- the packets that a recording delivers on each virtual channel, idle packets left out: eight lists
abbrev pub tm_lists : TmFormat → ℕ → List ℕ → List (List (List ℕ))
tm_lists format spacecraft recording =
    map (λ vc. without_idle (packets_of_channel (recorded_views format spacecraft recording) vc)) virtual_channels
