-- The packets of a TC recording, as `packets tc` lists them: in the order of the accepted units
-- that end their series, idle ones left out.
use Rattle.std.specs.Prelude.{ℕ, ◌/◌, ◌%◌, List, [], ◌++◌, map, codes, decimal, Result, Ok, Err}
use Rattle.std.specs.List.{concat}
use Rattle.sl_packet.specs.Packets.{without_idle}
use Rattle.sl_tcframe.specs.declared.tc_frame.TcSkip.{TcSkip}
use Rattle.sl_tcframe.specs.TcDelimited.{tc_frames_of}
use Rattle.sl_tcframe.specs.TcFrame.{TcView}
use Rattle.sl_tcflow.specs.AcceptedUnit.{views_of}
use Rattle.sl_tcflow.specs.Receiver.{ended_by, unit_map}
use Rattle.sl_tcflow.specs.ReceptionParameters.{ReceptionParameters}
use Rattle.sl_engine.specs.Kind.Tc.{as_read, tc_kind}
use Rattle.sl_engine.specs.Link.Managed.{Parameters, reception_of, tc_format}
use Rattle.sl_engine.specs.Verbs.Packets.Line.{packet_line, packets_listing}
use Rattle.sl_engine.specs.Verbs.Listing.{Listing, listing_text}

-- a virtual channel and a MAP
abbrev pub tc_channel_text : ℕ → ℕ → List ℕ
tc_channel_text vc map_id = codes "vc " ++ decimal vc ++ codes " map " ++ decimal map_id

-- the same by the number of their channel, 64 VC + MAP
abbrev pub tc_channel_name : ℕ → List ℕ
tc_channel_name channel = tc_channel_text (channel / 64) (channel % 64)

-- the lines of the packets that a frame delivers, as it is read, after the frames `views`: those of
-- the series that its unit ends
abbrev pub tc_packet_lines_after : ReceptionParameters → List TcView → Result TcView TcSkip → List ℕ
tc_packet_lines_after r views (Ok view) =
    concat (map (packet_line (tc_channel_text view.vc (unit_map r view))) (without_idle (ended_by r views view)))
tc_packet_lines_after r views (Err reason) = []

-- the same of a frame that comes after `before`
abbrev pub packets_tc_lines : Parameters → List (List ℕ) → List ℕ → List ℕ
packets_tc_lines p before frame =
    tc_packet_lines_after (reception_of p) (views_of (tc_format p) p.spacecraft before) (as_read p frame)

-- the listing: the lines of the packets that end with each frame's unit
abbrev pub packets_tc_listing : Parameters → Listing
packets_tc_listing p = packets_listing (tc_kind p) (packets_tc_lines p)

-- the text of a recording
abbrev pub packets_tc_text : Parameters → List ℕ → List ℕ
packets_tc_text p = listing_text (tc_frames_of (tc_format p)) (packets_tc_listing p)
