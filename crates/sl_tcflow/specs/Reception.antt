-- The packets of a MAP, CCSDS 232.0-B and 133.0-B. Two things are this project's choices: the
-- greatest length of a service data unit, and that the octets after its last
-- whole packet are dropped.
use Rattle.std.specs.Prelude.{◌≡◌, ℕ, ◌+◌, ◌==◌, nat_le, if◌then◌else◌, List, [], ◌∷◌, ◌++◌, length, map, flat_map}
use Rattle.std.specs.List.{filter}
use Rattle.sl_packet.specs.Packet.{longest_packet}
use Rattle.sl_packet.specs.Packets.{packets_of}
use Rattle.sl_tcframe.specs.TcFrame.{TcView}
use Rattle.sl_tcflow.specs.AcceptedUnit.{views_on, accepted_units}
use Rattle.sl_tcflow.specs.ReceptionParameters.{ReceptionParameters, is_plain, initial_vr}
use Rattle.sl_tcflow.specs.Series.{SeriesAt, past, reassembled, segment_in, segments_on, series_of}

-- The packets of the service data unit that these segments carry: the longest list of packets that
-- lie end to end at its front. A service data unit of more than 65,542 octets has no packets:
-- this project's choice.
abbrev pub packets_of_series : List (List ℕ) → List (List ℕ)
packets_of_series segments =
    if nat_le (length (reassembled segments)) longest_packet then packets_of (reassembled segments) else []

-- the packets of all series of a list of a MAP's segments, in order, idle ones included
abbrev pub packets_of_segments : List (List ℕ) → List (List ℕ)
packets_of_segments list = flat_map (λ (s : SeriesAt). packets_of_series s.segments) (series_of list)

-- the packets of the series that the segment `next` completes, where `next` follows the segments of
-- the list
abbrev pub packets_ended : List (List ℕ) → List ℕ → List (List ℕ)
packets_ended list next =
    flat_map (λ (s : SeriesAt). packets_of_series s.segments)
    (filter (λ (s : SeriesAt). past s == length list + 1) (series_of (list ++ next ∷ [])))

-- the segments of a virtual channel and a MAP, from the accepted units of these frames
abbrev pub segments_of : ReceptionParameters → ℕ → ℕ → List TcView → List (List ℕ)
segments_of r vc map_id views =
    segments_on map_id
    (map (segment_in (is_plain r vc)) (accepted_units r.window (initial_vr r vc) (views_on vc views)))

-- ---- laws

-- The packets of a list with one more segment are those of the list before, and then those of the
-- series that ends with the added segment.
abbrev pub PacketsEndOnce : Type 0
PacketsEndOnce =
    (list : List (List ℕ)) (next : List ℕ)
    → packets_of_segments (list ++ next ∷ []) ≡ packets_of_segments list ++ packets_ended list next
