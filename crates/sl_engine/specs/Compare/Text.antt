-- What only one of two recordings delivers, as text: a line for each run of packets, or for each packet.
use Rattle.std.specs.Prelude.{◌≡◌, ◌↔◌, ℕ, ◌==◌, Bool, if◌then◌else◌, List, [], ◌∷◌, ◌++◌, length, codes, decimal, flat_map}
use Rattle.std.specs.List.{range_with_len, slice_index_or}
use Rattle.sl_packet.specs.Packet.{apid_of}
use Rattle.sl_engine.specs.Compare.{by_channel}
use Rattle.sl_engine.specs.Kind.Tc.{tc_packets}
use Rattle.sl_engine.specs.Kind.Tm.{tm_packets}
use Rattle.sl_engine.specs.Link.Managed.{Parameters}
use Rattle.sl_pair.specs.Pairing.{ByChannel, NothingIsLeft}
use Rattle.sl_pair.specs.Placed.{Placed, left_in}
use Rattle.sl_pair.specs.Runs.{by_apid, count_of, runs_of}
use Rattle.sl_pair.specs.declared.channel.Station.{Station}
use Rattle.sl_pair.specs.declared.channel.Station.TheVariants.{First, Second}
use Rattle.sl_engine.specs.Verbs.Packets.Line.{packet_line}
use Rattle.sl_engine.specs.Verbs.Packets.Tc.{tc_channel_name}
use Rattle.sl_engine.specs.Verbs.Packets.Tm.{tm_channel_name}

-- the mark of a recording's lines
abbrev pub mark : Station → List ℕ
mark First = codes "< "
mark Second = codes "> "

-- the sequence counts of a run: the first one, and the last one where there are several packets
abbrev pub counts_text : ℕ → ℕ → ℕ → List ℕ
counts_text first last packets = decimal first ++ (if packets == 1 then [] else (codes ".." ++ decimal last))

-- what the line of a run says after the channel
abbrev pub run_text : ℕ → ℕ → ℕ → ℕ → List ℕ
run_text apid first last packets =
    codes " apid " ++ decimal apid ++ codes " counts " ++ counts_text first last packets
    ++ codes " packets " ++ decimal packets ++ codes "\n"

-- the line of a run of packets
abbrev pub run_line : Station → List ℕ → List Placed → List ℕ
run_line station name [] = []
run_line station name (one ∷ later) =
    mark station ++ (name ++ run_text (apid_of one.packet) (count_of one.packet)
    (count_of (slice_index_or (one ∷ later) (length later) one).packet) (length (one ∷ later)))

-- the lines of packets on a channel, in runs, or one for each packet
abbrev pub left_text : Bool → Station → List ℕ → List Placed → List ℕ
left_text each station name left =
    if each
    then flat_map (λ (one : Placed). mark station ++ packet_line name one.packet) left
    else flat_map (run_line station name) (runs_of left)

-- what only one of two recordings delivers on a channel, which `name` names: first what only the first has, then what
-- only the second has
abbrev pub channel_text : Bool → (ℕ → List ℕ) → ByChannel → ByChannel → ℕ → List ℕ
channel_text each name firsts seconds channel =
    left_text each First (name channel) (by_apid (left_in (firsts channel) (seconds channel)))
    ++ left_text each Second (name channel) (by_apid (left_in (seconds channel) (firsts channel)))

-- the same of the first channels
abbrev pub difference_text : Bool → (ℕ → List ℕ) → ByChannel → ByChannel → ℕ → List ℕ
difference_text each name firsts seconds channels =
    flat_map (channel_text each name firsts seconds) (range_with_len 0 channels)

-- ---- laws

-- Lines are written of two TM recordings exactly where one of them has a packet without a counterpart,
abbrev pub TmDifferencesHaveLines : Type 0
TmDifferencesHaveLines =
    (each : Bool) (p p' : Parameters) (one other : List ℕ)
    → (difference_text each tm_channel_name (by_channel (tm_packets p one)) (by_channel (tm_packets p' other)) 8 ≡ [])
    ↔ NothingIsLeft (by_channel (tm_packets p one)) (by_channel (tm_packets p' other))

-- and so of two TC recordings.
abbrev pub TcDifferencesHaveLines : Type 0
TcDifferencesHaveLines =
    (each : Bool) (p p' : Parameters) (one other : List ℕ)
    → (difference_text each tc_channel_name (by_channel (tc_packets p one)) (by_channel (tc_packets p' other)) 4096 ≡ [])
    ↔ NothingIsLeft (by_channel (tc_packets p one)) (by_channel (tc_packets p' other))
