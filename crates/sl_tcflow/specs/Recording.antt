-- The packets that a recording of TC frames delivers on each virtual channel and MAP, CCSDS 232.0-B
-- and 232.1-B: those of the units that FARM-1 accepts.
use Rattle.std.specs.Prelude.{ℕ, ◌+◌, ◌*◌, ◌/◌, ◌%◌, List, map}
use Rattle.std.specs.List.{range_with_len}
use Rattle.sl_packet.specs.Delivered.{channel_count}
use Rattle.sl_packet.specs.Packets.{without_idle}
use Rattle.sl_tcframe.specs.TcDelimited.{tc_frames_of}
use Rattle.sl_tcframe.specs.TcFrame.{TcFormat, TcView}
use Rattle.sl_tcflow.specs.AcceptedUnit.{views_of}
use Rattle.sl_tcflow.specs.Reception.{packets_of_segments, segments_of}
use Rattle.sl_tcflow.specs.ReceptionParameters.{ReceptionParameters}

-- what is read of the frames of a recording, skipped frames left out
abbrev pub recorded_views : TcFormat → ℕ → List ℕ → List TcView
recorded_views format spacecraft recording = views_of format spacecraft (tc_frames_of format recording)

-- the channel of a virtual channel and a MAP
abbrev pub channel_at : ℕ → ℕ → ℕ
channel_at vc map_id = 64 * vc + map_id

-- the channels of all MAPs, in order: virtual channel v and MAP m have the channel 64 v + m
unfoldable pub map_channels : List ℕ
map_channels = range_with_len 0 channel_count

-- the packets of a channel, idle ones included
abbrev pub packets_of_channel : ReceptionParameters → List TcView → ℕ → List (List ℕ)
packets_of_channel r views channel = packets_of_segments (segments_of r (channel / 64) (channel % 64) views)

-- the packets that a recording delivers under these parameters of reception, idle packets left out:
-- 4,096 lists, one for each channel in order
abbrev pub tc_lists : TcFormat → ℕ → ReceptionParameters → List ℕ → List (List (List ℕ))
tc_lists format spacecraft r recording =
    map (λ channel. without_idle (packets_of_channel r (recorded_views format spacecraft recording) channel))
    map_channels
