-- The packets of a TM recording, as `packets tm` lists them: in the order of the frames in which
-- they end, idle ones left out.
use Rattle.std.specs.Prelude.{ℕ, List, [], ◌++◌, map, codes, decimal, Result, Ok, Err}
use Rattle.std.specs.List.{concat}
use Rattle.sl_packet.specs.Packets.{without_idle}
use Rattle.sl_tmframe.specs.declared.tm_frame.TmSkip.{TmSkip}
use Rattle.sl_tmframe.specs.TmDelimited.{tm_frames_of}
use Rattle.sl_tmframe.specs.TmFrame.{TmView}
use Rattle.sl_tmflow.specs.VirtualChannel.{views_of}
use Rattle.sl_tmflow.specs.Extractor.{ended_by}
use Rattle.sl_engine.specs.Kind.Tm.{as_read, tm_kind}
use Rattle.sl_engine.specs.Link.Managed.{Parameters, tm_format}
use Rattle.sl_engine.specs.Verbs.Packets.Line.{packet_line, packets_listing}
use Rattle.sl_engine.specs.Verbs.Listing.{Listing, listing_text}

-- a virtual channel
abbrev pub tm_channel_name : ℕ → List ℕ
tm_channel_name vc = codes "vc " ++ decimal vc

-- the lines of the packets that end in a frame, as it is read, after the frames `views`
abbrev pub tm_packet_lines_after : List TmView → Result TmView TmSkip → List ℕ
tm_packet_lines_after views (Ok view) =
    concat (map (packet_line (tm_channel_name view.vc)) (without_idle (ended_by views view)))
tm_packet_lines_after views (Err reason) = []

-- the same of a frame that comes after `before`
abbrev pub packets_tm_lines : Parameters → List (List ℕ) → List ℕ → List ℕ
packets_tm_lines p before frame = tm_packet_lines_after (views_of (tm_format p) p.spacecraft before) (as_read p frame)

-- the listing: the lines of the packets that end in each frame
abbrev pub packets_tm_listing : Parameters → Listing
packets_tm_listing p = packets_listing (tm_kind p) (packets_tm_lines p)

-- the text of a recording
abbrev pub packets_tm_text : Parameters → List ℕ → List ℕ
packets_tm_text p = listing_text (tm_frames_of p.tm_length) (packets_tm_listing p)
